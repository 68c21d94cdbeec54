-- The goals of `offer_each` that are proved by hand.
use Rattle.std.proofs.Common.{ℕ, ◌<◌, length, arith, subst}
use Rattle.box_math.specs.Bounds.{Bounds}
use Rattle.box_math.specs.Measures.{point_dist2_of}
use Rattle.tree_node.specs.Nodes.{item_of}
use Rattle.node_bytes.specs.Views.{content_in}
use Rattle.nearest.specs.Candidates.{Past}
use Rattle.nearest.proofs.OfferLemmas.{all_offered, object_at, one_beyond, one_offered}
use Rattle.nearest.proofs.QueueLemmas.{row_of}
use Rattle.nearest.proofs.objects.offer_each.Goals as goal

pub objects-preserved-then-are_nearer : goal.objects-preserved-then-are_nearer
objects-preserved-then-are_nearer g c =
    let within : c.objects.place < length (content_in c.args.view.now).entries =
    omega (arith, c.objects-test.true, c.len-place-end.ensures.count) in
    one_beyond c.objects.invariant within
    (subst (λ (d : ℕ). Past d c.args.k c.objects.best) c.at-distance.ensures
    (c.are_nearer.ensures.0 c.if-are_nearer.true))

pub objects-preserved : goal.objects-preserved
objects-preserved g c =
    let far : Bounds → ℕ = λ b. point_dist2_of g.row.D b c.args.point.now in
    let items = (content_in c.args.view.now).entries in
    let within : c.objects.place < length items =
    omega (arith, c.objects-test.true, c.len-place-end.ensures.count) in
    one_offered c.objects.invariant (row_of c.object_of.result) c.offer.new.self within
    (object_at far items c.objects.place c.at-distance.result (item_of c.entry.result) within
    c.entry.ensures c.at-distance.ensures c.object_of.result c.object_of.ensures)
    c.in_ok-offer.ensures.ok

pub returns-clause-offered : goal.returns-clause-offered
returns-clause-offered g c =
    all_offered c.objects.invariant (omega (arith, c.objects-test.false, c.len-place-end.ensures.count))
