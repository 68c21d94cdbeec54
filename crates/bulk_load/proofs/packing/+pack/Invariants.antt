-- How far the levels go.
use Rattle.std.proofs.Common.{length}
use Rattle.bulk_load.proofs.packing.+pack.Given as goal

-- each level has fewer nodes
abbrev pub decreases-pack : goal.decreases-pack
decreases-pack g l = length l.entries.now
