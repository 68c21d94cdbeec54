-- The goals of `push_pairs_with` that are proved by hand.
use Rattle.std.proofs.Common.{arith}
use Rattle.box_math.specs.Measures.{near_test}
use Rattle.tree_node.specs.Nodes.{item_of}
use Rattle.node_bytes.specs.Views.{content_in}
use Rattle.spatial_join.proofs.LeafJoin.{item_read}
use Rattle.spatial_join.proofs.LeafPairs.{all_pushed, next_pushed, of_item}
use Rattle.spatial_join.proofs.leaves.push_pairs_with.Goals as goal

pub other-preserved : goal.other-preserved
other-preserved g c =
    let items = (content_in c.args.right.now).entries in
    let set = c.in-Some.ensures.set.2 in
    let within = c.mask_in-mask.ensures.within c.in-Some.place set in
    let named =
    item_read items c.in-Some.place (item_of c.entry-other.result) within c.entry-other.ensures in (
      next_pushed (of_item (item_of c.args.entry.now))
          (near_test g.row.D c.args.reach.limit c.args.entry.now.bounds) items c.args.pairs.now.items
          c.other.pairs.items c.mask_in-mask.result c.mask_in-mask.ensures c.other.from c.other.invariant.0
          c.in-Some.place c.in-Some.ensures.set.0 set c.in-Some.ensures.first
          (item_of c.entry-other.result) named c.push.new.self.items c.in_ok-push.ensures.items,
      omega (arith, within),
    )

pub returns-clause-pairs : goal.returns-clause-pairs
returns-clause-pairs g c =
    all_pushed (of_item (item_of c.args.entry.now))
    (near_test g.row.D c.args.reach.limit c.args.entry.now.bounds) (content_in c.args.right.now).entries
    c.args.pairs.now.items c.other.pairs.items c.mask_in-mask.result
    c.mask_in-mask.ensures c.other.from c.other.invariant.0 c.other.invariant.1 c.in_default.ensures.none
