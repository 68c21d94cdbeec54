-- The rows so far are entries.
use Rattle.std.proofs.Common.{◌≡◌, length, take}
use Rattle.tree_node.specs.Nodes.{items_of}
use Rattle.spatial_join.proofs.rows.leaf_of.Given as goal

abbrev pub invariant-loop-row : goal.invariant-loop-row
invariant-loop-row g l = record {
  size : length l.entries.items ≡ l.row-index;
  filled : items_of l.entries.items ≡ items_of (take l.row-index l.rows);
}
