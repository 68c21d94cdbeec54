-- The goals of `push_near` that are proved by hand.
use Rattle.std.proofs.Common.{ap, length, arith}
use Rattle.std.proofs.lemmas.List.{length-map}
use Rattle.tree_node.specs.Nodes.{item_of, items_of}
use Rattle.node_bytes.specs.Views.{content_in}
use Rattle.spatial_join.proofs.LeafJoin.{all_joined, joining_begins, next_joined}
use Rattle.spatial_join.proofs.MaskLemmas.{entry_named, place_within}
use Rattle.spatial_join.proofs.leaves.push_near.Goals as goal

pub object-init : goal.object-init
object-init g c = (
  joining_begins g.row.D c.args.reach.limit (items_of c.args.left.now.node.now.entries.items)
      (content_in c.args.right.now).entries c.args.bounds.now c.args.pairs.now.items,
  omega arith,
)

pub object-preserved : goal.object-preserved
object-preserved g c =
    let entries = c.args.left.now.node.now.entries.items in
    let items = items_of entries in
    let others = (content_in c.args.right.now).entries in
    let set = c.in-Some.ensures.set.2 in
    let within =
    place_within c.deref.result.now entries c.in-Some.place c.mask-near.result c.mask-near.ensures set
    c.deref.ensures.0 in
    let named =
    entry_named c.deref.result.now entries c.in-Some.place
    c.index-deref-place.result c.deref.ensures.0 within c.index-deref-place.is in (
      next_joined g.row.D c.args.reach.limit items others c.args.bounds.now c.args.pairs.now.items
          c.object.pairs.items c.mask-near.result c.mask-near.ensures c.object.from c.object.invariant.0
          c.in-Some.place c.in-Some.ensures.set.0 set c.in-Some.ensures.first
          (item_of c.index-deref-place.result) named c.push_pairs_with.new.pairs.items
          c.in_ok-push_pairs_with.ensures.pairs,
      omega (arith, within, ap length c.deref.ensures.0),
    )

pub returns-clause-pairs : goal.returns-clause-pairs
returns-clause-pairs g c =
    let entries = c.args.left.now.node.now.entries.items in
    all_joined g.row.D c.args.reach.limit (items_of entries) (content_in c.args.right.now).entries
    c.args.bounds.now c.args.pairs.now.items c.object.pairs.items c.mask-near.result c.mask-near.ensures
    c.object.from c.object.invariant.0 (omega (arith, c.object.invariant.1, length-map entries item_of))
    c.in_default.ensures.none
