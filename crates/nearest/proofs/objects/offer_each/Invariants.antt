-- What holds at each turn of the loop of `offer_each`.
use Rattle.box_math.specs.Measures.{point_dist2_of}
use Rattle.node_bytes.specs.Views.{content_in}
use Rattle.nearest.proofs.OfferLemmas.{Offering}
use Rattle.nearest.proofs.objects.offer_each.Given as goal

abbrev pub invariant-objects : goal.invariant-objects
invariant-objects g l =
    Offering (λ b. point_dist2_of g.row.D b l.point) l.k l.fn.best l.best (content_in l.view).entries l.place
