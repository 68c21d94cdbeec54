-- Rows of entries as lists, and entries that wait for a place in a tree.
use Rattle.std.specs.Prelude.{ℕ, ◌+◌, List, [], ◌∷◌, if◌then◌else◌, ◌==◌}
use Rattle.box_math.specs.Objects.{Object, bounds_of, tag_of}
use Rattle.tree_node.specs.Nodes.{Item}
use Rattle.tree_node.specs.Positions.{total}
use Rattle.tree_node.specs.Trees.{Row, end, more, Branch, object, child, objects_in, occurs}

-- the entries of a row, in order of position, and the row of such entries
abbrev pub branches_of : Row → List Branch
branches_of end = []
branches_of (more branch rest) = branch ∷ branches_of rest

abbrev pub row_of : List Branch → Row
row_of [] = end
row_of (branch ∷ branches) = more branch (row_of branches)

-- the entry as a page has it
abbrev pub item_in : Branch → Item
item_in (object kept id) = record { bounds = bounds_of kept; reference = id; tag = tag_of kept }
item_in (child bounds page below) = record { bounds = bounds; reference = page; tag = 0 }

-- how often a page occurs in the tree of an entry
abbrev pub occurs_on : ℕ → Branch → ℕ
occurs_on n (object kept id) = 0
occurs_on n (child bounds page below) = (if page == n then 1 else 0) + occurs n below

-- the objects in the tree of an entry
abbrev pub objects_on : Branch → List (ℕ × Object)
objects_on (object kept id) = (id, kept) ∷ []
objects_on (child bounds page below) = objects_in below

-- ---- entries that wait

-- an entry, and the level of the nodes that take it
pub record Waiter : Type 0 where
  pub branch : Branch
  pub level : ℕ

-- how often a page occurs in them
abbrev pub occurs_waiting : ℕ → List Waiter → ℕ
occurs_waiting n waiting = total (λ (w : Waiter). occurs_on n w.branch) waiting
