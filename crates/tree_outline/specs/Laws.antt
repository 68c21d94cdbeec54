-- What an outline has of a tree, in words of trees.
use Rattle.std.specs.Prelude.{◌≡◌, ℕ, Some, length, map, if◌then◌else◌, ◌==◌}
use Rattle.tree_node.specs.Boxes.{RowHasBoxes}
use Rattle.tree_node.specs.Joins.{boxes_below}
use Rattle.tree_node.specs.Positions.{total}
use Rattle.tree_node.specs.Searches.{nodes_in}
use Rattle.tree_node.specs.Shape.{HasShape}
use Rattle.tree_node.specs.Trees.{Tree, occurs_in}
use Rattle.tree_outline.specs.Outlines.{outline_of, outlines_below}
use Rattle.tree_outline.specs.declared.node.NodeOutline.{NodeOutline}

-- as many rows as the tree has nodes
abbrev pub HasEachNode : Type 0
HasEachNode = (dims : ℕ) (t : Tree) → length (outline_of {D = dims} t) ≡ nodes_in t

-- each page as often as the tree has it
abbrev pub HasEachPage : Type 0
HasEachPage = (dims n : ℕ) (t : Tree)
    → total (λ (row : NodeOutline dims). if row.page == n then 1 else 0) (outline_of t) ≡ occurs_in n t

-- under the shape the boxes below the root are those that the nodes above have of them
abbrev pub BoxesAreAbove : Type 0
BoxesAreAbove = (dims most : ℕ) (t : Tree) → HasShape dims most t → RowHasBoxes dims t.row
    → map (λ (row : NodeOutline dims). row.bounds) (outlines_below t.level t.row)
    ≡ map (λ b. Some b) (boxes_below t.row)
