use Rattle.std.proofs.Common.{ℕ, ◌<◌}
use Rattle.box_math.specs.Bounds.{IsBox}
use Rattle.tree_node.specs.Nodes.{items_of}
use Rattle.tree_node.specs.Boxes.{box_at}
use Rattle.tree_node.proofs.entries.see_boxes.Given as goal

abbrev pub invariant-loop-i : goal.invariant-loop-i
invariant-loop-i g l = (k : ℕ) → k < l.i → IsBox g.row.D (box_at (items_of l.entries) k)
