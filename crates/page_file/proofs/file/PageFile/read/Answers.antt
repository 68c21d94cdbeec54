-- A block read leaves no more.
use Rattle.std.proofs.Common.{refl}
use Rattle.page_file.proofs.Moments.{kept_where_no_more_is_left}
use Rattle.page_file.proofs.file.PageFile.read.Goals as goal

pub returns-clause-gate : goal.returns-clause-gate
returns-clause-gate g c =
    kept_where_no_more_is_left c.args.self.now _ refl c.read_block.ensures.honest (λ h. refl)
    c.read_block.ensures.shown c.read_block.ensures.stops
