-- The pairs of the places that the mask names so far are pushed.
use Rattle.std.proofs.Common.{◌-◌, ◌≤◌, length}
use Rattle.box_math.specs.Measures.{near_test}
use Rattle.tree_node.specs.Nodes.{item_of}
use Rattle.node_bytes.specs.Views.{content_in}
use Rattle.spatial_join.proofs.LeafPairs.{Pushed, of_item}
use Rattle.spatial_join.proofs.leaves.push_pairs_with.Given as goal

abbrev pub invariant-other : goal.invariant-other
invariant-other g l =
    Pushed (of_item (item_of l.fn.entry)) (near_test g.row.D l.fn.reach.limit l.fn.entry.bounds)
    (content_in l.fn.right).entries l.from l.fn.pairs.items l.pairs.items
    × (l.from ≤ length (content_in l.fn.right).entries)

-- each place comes after the one before it
abbrev pub decreases-other : goal.decreases-other
decreases-other g l = 128 - l.from
