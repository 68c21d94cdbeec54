-- The goals of `offer_near` that are proved by hand.
use Rattle.std.proofs.Common.{ℕ, ◌+◌, ◌<◌, length, arith}
use Rattle.box_math.specs.Bounds.{Bounds}
use Rattle.box_math.specs.Measures.{point_dist2_of}
use Rattle.tree_node.specs.Nodes.{item_of}
use Rattle.node_bytes.specs.Views.{content_in}
use Rattle.nearest.proofs.OfferLemmas.{all_offered, masked_to, none_masked, object_in, one_masked}
use Rattle.nearest.proofs.QueueLemmas.{row_of}
use Rattle.nearest.proofs.objects.offer_near.Goals as goal

pub objects-init : goal.objects-init
objects-init g c =
    let far : Bounds → ℕ = λ b. point_dist2_of g.row.D b c.args.point.now in
    let items = (content_in c.args.view.now).entries in
    masked_to far c.args.k c.args.best.now c.args.best.now items c.near_mask-mask.result 0
    c.next_set-place.result c.next_set-place.ensures.within c.next_set-place.ensures.unset
    (none_masked far c.args.k c.args.best.now items c.near_mask-mask.result c.requires.few
    c.near_mask-mask.ensures)

pub objects-preserved : goal.objects-preserved
objects-preserved g c =
    let far : Bounds → ℕ = λ b. point_dist2_of g.row.D b c.args.point.now in
    let items = (content_in c.args.view.now).entries in
    let within : c.objects.place < length items =
    omega (arith, c.objects-test.true, c.len-count.ensures.count) in
    masked_to far c.args.k c.args.best.now c.offer.new.self items c.near_mask-mask.result
    (c.objects.place + 1) c.next_set-place-in-objects.result
    c.next_set-place-in-objects.ensures.within c.next_set-place-in-objects.ensures.unset
    (one_masked c.objects.invariant (row_of c.object_of.result) c.offer.new.self within
    (object_in far items c.objects.place c.point_dist2.result (item_of c.entry-entry.result) within
    c.entry-entry.ensures c.point_dist2.ensures.value c.object_of.result c.object_of.ensures)
    c.in_ok-offer.ensures.ok)

pub returns-clause-offered : goal.returns-clause-offered
returns-clause-offered g c =
    all_offered c.objects.invariant.so_far
    (omega (arith, c.objects-test.false, c.len-count.ensures.count))
