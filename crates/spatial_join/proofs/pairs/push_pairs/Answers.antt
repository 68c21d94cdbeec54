-- The goals of `push_pairs` that are proved by hand.
use Rattle.std.proofs.Common.{ap, length, map, arith}
use Rattle.box_math.specs.Measures.{near_test}
use Rattle.tree_node.specs.Nodes.{item_of}
use Rattle.spatial_join.proofs.LeafPairs.{all_pushed, next_pushed, of_item}
use Rattle.spatial_join.proofs.MaskLemmas.{entry_named, place_within}
use Rattle.std.proofs.lemmas.List.{length-map}
use Rattle.spatial_join.proofs.pairs.push_pairs.Goals as goal

pub other-preserved : goal.other-preserved
other-preserved g c =
    let right = c.args.right.now.node.now in
    let within =
    place_within c.deref.result.now right.entries.items c.in-Some.place c.mask-mask.result
    c.mask-mask.ensures c.in-Some.ensures.set.2 c.deref.ensures.0 in
    let named =
    entry_named c.deref.result.now right.entries.items c.in-Some.place
    c.index-deref-place.result c.deref.ensures.0 within c.index-deref-place.is in (
      next_pushed (of_item (item_of c.args.entry.now))
          (near_test g.row.D c.args.reach.limit c.args.entry.now.bounds) (map item_of right.entries.items)
          c.args.pairs.now.items c.other.pairs.items c.mask-mask.result
          c.mask-mask.ensures c.other.from c.other.invariant.0
          c.in-Some.place c.in-Some.ensures.set.0 c.in-Some.ensures.set.2 c.in-Some.ensures.first
          (item_of c.index-deref-place.result) named c.push.new.self.items c.in_ok-push.ensures.items,
      omega (arith, within, ap length c.deref.ensures.0),
    )

pub returns-clause-pairs : goal.returns-clause-pairs
returns-clause-pairs g c =
    let right = c.args.right.now.node.now in
    all_pushed (of_item (item_of c.args.entry.now))
    (near_test g.row.D c.args.reach.limit c.args.entry.now.bounds) (map item_of right.entries.items)
    c.args.pairs.now.items c.other.pairs.items c.mask-mask.result c.mask-mask.ensures c.other.from
    c.other.invariant.0
    (omega (arith, c.other.invariant.1, length-map right.entries.items item_of))
    c.in_default.ensures.none
