-- What holds at each turn of the loop of `offer_first`, and that it ends.
use Rattle.std.proofs.Common.{◌-◌}
use Rattle.box_math.specs.Measures.{point_dist2_of}
use Rattle.node_bytes.specs.Views.{content_in}
use Rattle.nearest.proofs.FirstLemmas.{OfferingFirst}
use Rattle.nearest.proofs.objects.offer_first.Given as goal

abbrev pub invariant-objects : goal.invariant-objects
invariant-objects g l =
    OfferingFirst (λ b. point_dist2_of g.row.D b l.point) l.bound l.k l.fn.best l.best
    (content_in l.view).entries l.place

abbrev pub decreases-objects : goal.decreases-objects
decreases-objects g l = 256 - l.place
