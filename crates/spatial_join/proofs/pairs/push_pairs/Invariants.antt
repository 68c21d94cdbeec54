-- The pairs of the places that the mask names so far are pushed.
use Rattle.std.proofs.Common.{◌-◌, ◌≤◌, length, map}
use Rattle.box_math.specs.Measures.{near_test}
use Rattle.tree_node.specs.Nodes.{item_of}
use Rattle.spatial_join.proofs.LeafPairs.{Pushed, of_item}
use Rattle.spatial_join.proofs.pairs.push_pairs.Given as goal

abbrev pub invariant-other : goal.invariant-other
invariant-other g l =
    Pushed (of_item (item_of l.fn.entry)) (near_test g.row.D l.fn.reach.limit l.fn.entry.bounds)
    (map item_of l.fn.right.node.now.entries.items) l.from l.fn.pairs.items l.pairs.items
    × (l.from ≤ length l.fn.right.node.now.entries.items)

-- each place comes after the one before it
abbrev pub decreases-other : goal.decreases-other
decreases-other g l = 128 - l.from
