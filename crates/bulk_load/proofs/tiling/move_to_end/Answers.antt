-- Where the entries end.
use Rattle.std.proofs.Common.{◌∙◌, ap}
use Rattle.bulk_load.specs.Tiling.{ending}
use Rattle.bulk_load.proofs.SlabLemmas.{ending_even, ending_one}
use Rattle.bulk_load.proofs.tiling.move_to_end.Goals as goal

pub returns-then-axis-eq1 : goal.returns-then-axis-eq1
returns-then-axis-eq1 g c =
    ap (ending c.args.axis c.args.entries.now) c.copy_from_slice.ensures.after
    ∙ ending_one c.args.axis c.args.entries.now

pub returns-else-axis-eq1 : goal.returns-else-axis-eq1
returns-else-axis-eq1 g c =
    ending_even c.args.axis c.args.entries.now c.args.other.now c.if-axis-eq1.false
