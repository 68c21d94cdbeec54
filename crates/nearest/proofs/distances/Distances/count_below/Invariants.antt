-- How many of the squares so far are less.
use Rattle.std.proofs.Common.{◌≡◌, nat_lt, take}
use Rattle.std.specs.List.{count_by}
use Rattle.nearest.proofs.distances.Distances.count_below.Given as goal

abbrev pub invariant-loop-place : goal.invariant-loop-place
invariant-loop-place l = l.below ≡ count_by (λ square. nat_lt square l.bound) (take l.place l.self.squares)
