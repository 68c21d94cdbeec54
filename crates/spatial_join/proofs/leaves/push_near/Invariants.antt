-- The pairs of the objects that the mask names so far are added.
use Rattle.std.proofs.Common.{◌-◌, ◌≤◌, length}
use Rattle.tree_node.specs.Nodes.{items_of}
use Rattle.node_bytes.specs.Views.{content_in}
use Rattle.spatial_join.proofs.LeafJoin.{Joined}
use Rattle.spatial_join.proofs.leaves.push_near.Given as goal

abbrev pub invariant-object : goal.invariant-object
invariant-object g l =
    Joined g.row.D l.fn.reach.limit (items_of l.fn.left.node.now.entries.items)
    (content_in l.fn.right).entries l.fn.bounds l.from l.fn.pairs.items l.pairs.items
    × (l.from ≤ length l.fn.left.node.now.entries.items)

-- each place comes after the one before it
abbrev pub decreases-object : goal.decreases-object
decreases-object g l = 128 - l.from
