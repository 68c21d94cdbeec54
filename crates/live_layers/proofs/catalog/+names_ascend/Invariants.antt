-- What falls from turn to turn in `names_ascend`.
use Rattle.std.proofs.Common.{length}
use Rattle.live_layers.proofs.catalog.+names_ascend.Given as goal

abbrev pub decreases-names_ascend : goal.decreases-names_ascend
decreases-names_ascend l = length l.records.now
