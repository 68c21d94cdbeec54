-- The goals of `offer_first` that are proved by hand.
use Rattle.std.proofs.Common.{ℕ, ◌+◌, ◌<◌, length, arith}
use Rattle.box_math.specs.Bounds.{Bounds}
use Rattle.box_math.specs.Measures.{point_dist2_of}
use Rattle.tree_node.specs.Nodes.{item_of}
use Rattle.node_bytes.specs.Views.{content_in}
use Rattle.nearest.proofs.FirstLemmas.{all_first, counted_nearer, first_none, first_offered, first_to}
use Rattle.nearest.proofs.OfferLemmas.{object_at}
use Rattle.nearest.proofs.QueueLemmas.{row_of}
use Rattle.nearest.proofs.objects.offer_first.Goals as goal

pub objects-init : goal.objects-init
objects-init g c =
    let far : Bounds → ℕ = λ b. point_dist2_of g.row.D b c.args.point.now in
    let items = (content_in c.args.view.now).entries in
    first_to far c.args.bound c.args.k c.args.best.now c.args.best.now items c.reach_mask-mask.result 0
    c.next_set-place.result c.reach_mask-mask.ensures
    c.next_set-place.ensures.within c.next_set-place.ensures.unset
    (first_none far c.args.bound c.args.k c.args.best.now items c.requires.few c.see_order.ensures)

pub objects-preserved : goal.objects-preserved
objects-preserved g c =
    let far : Bounds → ℕ = λ b. point_dist2_of g.row.D b c.args.point.now in
    let items = (content_in c.args.view.now).entries in
    let within : c.objects.place < length items =
    omega (arith, c.objects-test.true, c.len-count.ensures.count) in
    first_to far c.args.bound c.args.k c.args.best.now c.offer.new.self items c.reach_mask-mask.result
    (c.objects.place + 1) c.next_set-place-in-objects.result c.reach_mask-mask.ensures
    c.next_set-place-in-objects.ensures.within c.next_set-place-in-objects.ensures.unset
    (first_offered c.objects.invariant (row_of c.object_of.result) c.offer.new.self within
    (object_at far items c.objects.place c.at-distance.result (item_of c.entry.result) within
    c.entry.ensures c.at-distance.ensures c.object_of.result c.object_of.ensures)
    c.in_ok-offer.ensures.ok)

pub returns-clause-offered : goal.returns-clause-offered
returns-clause-offered g c =
    let far : Bounds → ℕ = λ b. point_dist2_of g.row.D b c.args.point.now in
    let items = (content_in c.args.view.now).entries in
    all_first c.objects.invariant (omega (arith, c.objects-test.false, c.len-count.ensures.count))
    (omega (
      arith,
      c.requires.enough,
      counted_nearer c.args.bound far items c.args.distances.now.squares
          (omega (arith, c.requires.measured.few))
          (c.requires.measured.exact c.requires.exact),
    ))
