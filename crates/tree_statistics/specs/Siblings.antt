-- The overlaps of siblings, told of a tree.
use Rattle.std.specs.Prelude.{◌≡◌, ℕ, ◌+◌, ◌-◌, ◌==◌, if◌then◌else◌}
use Rattle.box_math.specs.Bounds.{Bounds}
use Rattle.box_math.specs.Measures.{overlap_of}
use Rattle.tree_node.specs.Boxes.{RowHasBoxes}
use Rattle.tree_node.specs.Shape.{HasShape}
use Rattle.tree_node.specs.Trees.{Row, Tree, end, more, object, child}
use Rattle.tree_outline.specs.Outlines.{outline_of}
use Rattle.tree_statistics.specs.Levels.{overlap_at}

-- of a box with those of the children in a row
abbrev pub overlap_beside : ℕ → Bounds → Row → ℕ
overlap_beside dims b end = 0
overlap_beside dims b (more (object kept id) rest) = overlap_beside dims b rest
overlap_beside dims b (more (child c page below) rest) = overlap_of dims b c + overlap_beside dims b rest

-- of each two children of one node, where they are nodes of this level, of the nodes from one of level `at` down
abbrev pub sibling_overlap : ℕ → ℕ → ℕ → Row → ℕ
sibling_overlap dims level at end = 0
sibling_overlap dims level at (more (object kept id) rest) = sibling_overlap dims level at rest
sibling_overlap dims level at (more (child b page below) rest) =
    (if at == level + 1 then overlap_beside dims b rest else 0) + sibling_overlap dims level (at - 1) below
    + sibling_overlap dims level at rest

-- under the shape it is so counted in the outline of the tree
abbrev pub CountsSiblings : Type 0
CountsSiblings = (dims most level : ℕ) (t : Tree) → HasShape dims most t → RowHasBoxes dims t.row
    → overlap_at {D = dims} level (outline_of t) ≡ sibling_overlap dims level t.level t.row
