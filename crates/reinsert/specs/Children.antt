-- The children of a node, as values (Guttman 1984).
use Rattle.std.specs.Prelude.{ℕ, zero, suc, ◌+◌, Option, Some, None, if◌then◌else◌, ◌==◌}
use Rattle.box_math.specs.Bounds.{Bounds}
use Rattle.tree_node.specs.Trees.{Row, end, more, Branch, object, child, row_items, occurs}
use Rattle.tree_node.specs.Boxes.{least_box}

-- a child: its page and its entries
pub record Child : Type 0 where
  pub page : ℕ
  pub row : Row

-- the child at a position, if there is one
abbrev pub child_at : Row → ℕ → Option Child
child_at end at = None
child_at (more (object kept id) rest) zero = None
child_at (more (object kept id) rest) (suc at) = child_at rest at
child_at (more (child bounds page below) rest) zero = Some (record { page = page; row = below })
child_at (more (child bounds page below) rest) (suc at) = child_at rest at

-- the row with other entries in the child there, and another box round it
abbrev pub with_child : Row → ℕ → Bounds → Row → Row
with_child end at b new = end
with_child (more (object kept id) rest) zero b new = more (object kept id) rest
with_child (more (object kept id) rest) (suc at) b new = more (object kept id) (with_child rest at b new)
with_child (more (child bounds page below) rest) zero b new = more (child b page new) rest
with_child (more (child bounds page below) rest) (suc at) b new = more (child bounds page below)
    (with_child rest at b new)

-- the entry of a child, with the least box
abbrev pub boxed : ℕ → Child → Branch
boxed dims c = child (least_box dims (row_items c.row)) c.page c.row

-- how often a page occurs in a node with the page and these entries
abbrev pub occurs_at : ℕ → ℕ → Row → ℕ
occurs_at page n row = (if page == n then 1 else 0) + occurs n row
