-- Nodes of the tree of a layer, as C has them. Our rule, docs/LIBRARY.md.
use Rattle.std.specs.Prelude.{ℕ, ℤ, pos, List, [], ◌∷◌, Option, None, Some}
use Rattle.box_math.specs.Bounds.{Bounds}
use Rattle.tree_outline.specs.declared.node.NodeOutline.{NodeOutline}
use Rattle.c_rows.specs.Rows.{filled}
use Rattle.c_rows.specs.declared.nodes.NodeRow.{NodeRow}

-- the numbers of a corner of a box, if there is one, and else zeros
abbrev pub corner_of : Option Bounds → (Bounds → List ℤ) → List ℤ
corner_of None corner = pos 0 ∷ pos 0 ∷ pos 0 ∷ []
corner_of (Some b) corner = filled (corner b)

-- the row of a node: how many entries it has, its page, its level, and the least box round its entries
abbrev pub node_of : {D : ℕ} → NodeOutline D → NodeRow
node_of node = record {
  count = node.count;
  page = node.page;
  level = node.level;
  low = corner_of node.bounds (λ b. b.low);
  high = corner_of node.bounds (λ b. b.high);
}
