-- What holds at each turn of the loop over the axes.
use Rattle.nearest.proofs.DistanceLemmas.{Measured}
use Rattle.nearest.proofs.distances.measured.Given as goal

abbrev pub invariant-axes : goal.invariant-axes
invariant-axes g l = Measured l.bounds l.point l.axis l.square l.widest
