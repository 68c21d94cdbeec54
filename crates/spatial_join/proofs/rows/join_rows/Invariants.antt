-- The pairs of the groups so far are added.
use Rattle.std.proofs.Common.{◌-◌, ◌≤◌, drop, length}
use Rattle.tree_node.specs.Nodes.{items_of}
use Rattle.node_page.specs.Checked.{pairs_of as objects_of}
use Rattle.spatial_join.proofs.RowsLemmas.{Gone}
use Rattle.spatial_join.proofs.rows.join_rows.Given as goal

abbrev pub invariant-group : goal.invariant-group
invariant-group g l = record {
  gone : Gone g.row.D l.reach.limit l.fn.cache l.cache l.fn.root (objects_of (items_of l.rows))
      (drop l.from (objects_of (items_of l.rows))) l.pairs.items;
  within : l.from ≤ length l.rows;
}

-- each group has a row
abbrev pub decreases-group : goal.decreases-group
decreases-group g l = length l.rows - l.from
