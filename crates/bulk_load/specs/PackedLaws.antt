-- What packed trees are (our rule, docs/RULES.md, "Packed load").
use Rattle.std.specs.Prelude.{ℕ, ◌≤◌, List, IsPermutation}
use Rattle.box_math.specs.Bounds.{IsDims}
use Rattle.tree_node.specs.Nodes.{Item}
use Rattle.tree_node.specs.Shape.{HasShape}
use Rattle.tree_node.specs.Trees.{Tree, objects_in}
use Rattle.node_page.specs.Checked.{pairs_of}
use Rattle.bulk_load.specs.Packed.{IsPacked}

-- a packed tree has the shape of an R-tree
abbrev pub PackedHasShape : Type 0
PackedHasShape = (dims most : ℕ) (items : List Item) (t : Tree) → IsDims dims → 4 ≤ most
    → IsPacked dims most items t → HasShape dims most t

-- and holds just the objects
abbrev pub PackedHoldsObjects : Type 0
PackedHoldsObjects = (dims most : ℕ) (items : List Item) (t : Tree) → IsPacked dims most items t
    → IsPermutation (pairs_of items) (objects_in t.row)
