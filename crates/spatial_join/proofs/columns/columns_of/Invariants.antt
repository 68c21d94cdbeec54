-- The columns of the axes so far are filled.
use Rattle.std.proofs.Common.{◌≡◌, ℕ, ◌<◌, length}
use Rattle.box_math.specs.Bounds.{on_axis}
use Rattle.tree_node.specs.Boxes.{box_at}
use Rattle.tree_node.specs.Nodes.{items_of}
use Rattle.node_bytes.specs.Columns.{cell}
use Rattle.spatial_join.specs.Masks.{HaveBoxes}
use Rattle.spatial_join.proofs.columns.columns_of.Given as goal

abbrev pub invariant-loop-axis : goal.invariant-loop-axis
invariant-loop-axis g l = record {
  boxes : 0 < l.axis → HaveBoxes g.row.D (items_of l.node.entries.items);
  low_size : length l.lows ≡ g.row.D;
  high_size : length l.highs ≡ g.row.D;
  lows : (axis place : ℕ) → axis < l.axis → place < length l.node.entries.items
      → cell l.lows axis place ≡ on_axis (box_at (items_of l.node.entries.items) place).low axis;
  highs : (axis place : ℕ) → axis < l.axis → place < length l.node.entries.items
      → cell l.highs axis place ≡ on_axis (box_at (items_of l.node.entries.items) place).high axis;
}
