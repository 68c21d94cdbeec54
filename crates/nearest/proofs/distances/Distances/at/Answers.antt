-- The goals of `at` that are proved by hand.
use Rattle.std.proofs.Common.{arith}
use Rattle.nearest.proofs.distances.Distances.at.Goals as goal

pub offset_bounds-self-place : goal.offset_bounds-self-place
offset_bounds-self-place g c = omega (arith, c.requires.within, c.requires.measured.few)

pub bounds-self-place : goal.bounds-self-place
bounds-self-place g c = omega (arith, c.requires.within, c.requires.measured.few)
