-- What holds at each turn of the loop of `find_near`, and that it ends.
use Rattle.std.proofs.Common.{[], ◌-◌, ◌≤◌, length}
use Rattle.box_math.specs.Measures.{near_test}
use Rattle.node_bytes.specs.Views.{content_in}
use Rattle.tree_node.specs.Nodes.{items_of}
use Rattle.spatial_join.proofs.LeafPairs.{Pushed}
use Rattle.spatial_join.proofs.rows.find_near.Given as goal

-- the children so far that the mask names are written down, and they are no more than these
abbrev pub invariant-entry : goal.invariant-entry
invariant-entry g l =
    Pushed (λ item. item) (near_test g.row.D l.fn.reach.limit l.fn.bounds) (content_in l.view).entries l.from []
    (items_of l.children.items)
    × (l.from ≤ length (content_in l.view).entries) × (length l.children.items ≤ l.from)

-- each place comes after the one before it
abbrev pub decreases-entry : goal.decreases-entry
decreases-entry g l = 128 - l.from
