-- The nodes of a tree in one order: each before those below it, and siblings by position (our rule,
-- docs/FORMAT.md, "Trees of pages").
use Rattle.std.specs.Prelude.{ℕ, ◌-◌, List, [], ◌∷◌, ◌++◌, Option, None, Some, length}
use Rattle.box_math.specs.Bounds.{Bounds}
use Rattle.tree_node.specs.Boxes.{least_box}
use Rattle.tree_node.specs.Nodes.{Item, NodeContent}
use Rattle.tree_node.specs.Trees.{Row, end, more, object, child, Tree, row_items}
use Rattle.tree_outline.specs.declared.node.NodeOutline.{NodeOutline}

-- the least box round some entries, if there are any
abbrev pub box_of_entries : ℕ → List Item → Option Bounds
box_of_entries dims [] = None
box_of_entries dims (item ∷ items) = Some (least_box dims (item ∷ items))

-- the outline of the node at a page
abbrev pub outlined : {D : ℕ} → ℕ → NodeContent → NodeOutline D
outlined {D} page c =
    record { page = page; level = c.level; count = length c.entries; bounds = box_of_entries D c.entries }

-- of the nodes below one of this level
abbrev pub outlines_below : {D : ℕ} → ℕ → Row → List (NodeOutline D)
outlines_below level end = []
outlines_below level (more (object kept id) rest) = outlines_below level rest
outlines_below level (more (child bounds page below) rest) =
    outlined page (record { level = level - 1; entries = row_items below })
    ∷ (outlines_below (level - 1) below ++ outlines_below level rest)

-- of a node and those below it
abbrev pub outline_at : {D : ℕ} → ℕ → ℕ → Row → List (NodeOutline D)
outline_at page level row =
    outlined page (record { level = level; entries = row_items row }) ∷ outlines_below level row

-- of all nodes of a tree
abbrev pub outline_of : {D : ℕ} → Tree → List (NodeOutline D)
outline_of t = outline_at t.page t.level t.row
