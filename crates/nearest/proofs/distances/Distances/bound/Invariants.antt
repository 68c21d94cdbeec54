-- So many are less all the while.
use Rattle.std.proofs.Common.{◌≤◌, nat_lt, take}
use Rattle.std.specs.List.{count_by}
use Rattle.nearest.proofs.distances.Distances.bound.Given as goal

abbrev pub invariant-halves : goal.invariant-halves
invariant-halves l = l.many ≤ count_by (λ square. nat_lt square l.bound) (take l.count l.self.squares)

abbrev pub decreases-halves : goal.decreases-halves
decreases-halves l = l.bound
