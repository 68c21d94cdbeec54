-- Of the entries so far those are left that are in the reach.
use Rattle.std.proofs.Common.{◌-◌, ◌≤◌, length}
use Rattle.box_math.specs.Measures.{near_test}
use Rattle.tree_node.specs.Nodes.{items_of}
use Rattle.spatial_join.proofs.MaskLemmas.{Sifted}
use Rattle.spatial_join.proofs.reach.Reach.nearer.Given as goal

abbrev pub invariant-entry : goal.invariant-entry
invariant-entry g l =
    Sifted (near_test g.row.D l.fn.self.limit l.fn.bounds) l.fn.named l.near
    (items_of l.fn.columns.node.now.entries.items) l.from
    × (l.from ≤ length l.fn.columns.node.now.entries.items)

-- each place comes after the one before it
abbrev pub decreases-entry : goal.decreases-entry
decreases-entry g l = 128 - l.from
