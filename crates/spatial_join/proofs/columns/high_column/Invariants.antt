-- The numbers of the entries so far stand in the column.
use Rattle.std.proofs.Common.{◌≡◌, ℕ, ◌<◌, length}
use Rattle.box_math.specs.Bounds.{on_axis}
use Rattle.tree_node.specs.Boxes.{box_at}
use Rattle.tree_node.specs.Nodes.{items_of}
use Rattle.spatial_join.proofs.columns.high_column.Given as goal

abbrev pub invariant-loop-place : goal.invariant-loop-place
invariant-loop-place g l = record {
  size : length l.column ≡ 100;
  filled : (k : ℕ) → k < l.place
      → on_axis l.column k ≡ on_axis (box_at (items_of l.node.entries.items) k).high l.axis;
}
