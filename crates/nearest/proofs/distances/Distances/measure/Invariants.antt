-- What holds at each turn of the loop over the places.
use Rattle.box_math.specs.Measures.{point_dist2_of}
use Rattle.node_bytes.specs.Views.{content_in}
use Rattle.nearest.proofs.DistanceLemmas.{Measuring}
use Rattle.nearest.proofs.distances.Distances.measure.Given as goal

abbrev pub invariant-loop-place : goal.invariant-loop-place
invariant-loop-place g l =
    Measuring (λ b. point_dist2_of g.row.D b l.point) (content_in l.view).entries l.place l.self.squares l.widest
