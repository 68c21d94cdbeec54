-- The slots add no block.
use Rattle.std.proofs.Common.{◌∙◌, sym}
use Rattle.logged_pair.specs.Shown.{length-shown}
use Rattle.logged_pair.specs.Standing.{base_of, homes_of, journal_of}
use Rattle.logged_pair.proofs.pair.LoggedPair.blocks.Goals as goal

pub returns-clause-is : goal.returns-clause-is
returns-clause-is g c = let d = c.args.self.now in
    c.base_blocks.ensures.is ∙ sym (length-shown (homes_of d) (journal_of d) (base_of d))
