-- What each lawful insertion keeps: laws of its definition, and of the shape of trees (Guttman 1984).
use Rattle.std.specs.Prelude.{⊤, ℕ, ◌+◌, ◌*◌, ◌^◌, ◌<◌, ◌≤◌, List, [], ◌∷◌, ◌++◌}
use Rattle.std.specs.List.Sorted.{IsPermutation}
use Rattle.tree_node.specs.Trees.{end, more, Branch, Tree, RowOnLevel, objects_in, occurs_in}
use Rattle.tree_node.specs.Shape.{RowHasShape, HasShape, HasLooseShape}
use Rattle.tree_node.specs.Boxes.{RowHasBoxes}
use Rattle.tree_node.specs.Rows.{Waiter, objects_on}
use Rattle.reinsert.specs.Far.{far_count}
use Rattle.reinsert.specs.Placing.{State, Placing}
use Rattle.reinsert.specs.Insertion.{IsInsertion}

-- ---- objects

-- the new tree has the objects of the old one and those of the entry
abbrev pub InsertionKeepsObjects : Type 0
InsertionKeepsObjects =
    (dims most : ℕ) (elsewhere : ℕ → ℕ) (branch : Branch) (level : ℕ) (old new : Tree)
    → IsInsertion dims most elsewhere branch level old new
    → IsPermutation (objects_on branch ++ objects_in old.row) (objects_in new.row)

-- ---- shape

-- an entry for a node of this level whose tree has shape: each node in it has from the least to the most
-- entries and a least box
abbrev pub EntryHasShape : ℕ → ℕ → ℕ → Branch → Type 0
EntryHasShape dims most level branch =
    RowHasShape dims most (more branch end) × RowHasBoxes dims (more branch end)
    × RowOnLevel level (more branch end)

abbrev pub InsertionKeepsLooseShape : Type 0
InsertionKeepsLooseShape =
    (dims most : ℕ) (elsewhere : ℕ → ℕ) (branch : Branch) (level : ℕ) (old new : Tree)
    → IsInsertion dims most elsewhere branch level old new → 2 ≤ most → EntryHasShape dims most level branch
    → RowHasBoxes dims old.row
    → HasLooseShape dims most old → HasLooseShape dims most new × RowHasBoxes dims new.row

abbrev pub InsertionKeepsShape : Type 0
InsertionKeepsShape =
    (dims most : ℕ) (elsewhere : ℕ → ℕ) (branch : Branch) (level : ℕ) (old new : Tree)
    → IsInsertion dims most elsewhere branch level old new → 2 ≤ most → EntryHasShape dims most level branch
    → RowHasBoxes dims old.row
    → HasShape dims most old → HasShape dims most new × RowHasBoxes dims new.row

-- each entry that waits does so for a node of a level of the tree, and has shape
abbrev pub AllHaveShape : ℕ → ℕ → ℕ → List Waiter → Type 0
AllHaveShape dims most top [] = ⊤
AllHaveShape dims most top (w ∷ ws) =
    (w.level ≤ top) × EntryHasShape dims most w.level w.branch × AllHaveShape dims most top ws

-- the tree between two placings has loose shape, and so has what waits
pub record StateHasShape (dims most : ℕ) (s : State) : Type 0 where
  pub tree : HasLooseShape dims most s.tree
  pub boxes : RowHasBoxes dims s.tree.row
  pub waiting : AllHaveShape dims most s.tree.level s.waiting

abbrev pub PlacingKeepsLooseShape : Type 0
PlacingKeepsLooseShape =
    (dims most : ℕ) (elsewhere : ℕ → ℕ) (old new : State) → Placing dims most elsewhere old new → 2 ≤ most
    → StateHasShape dims most old → StateHasShape dims most new

-- a tree with loose shape whose pages are below 2^31, none of them twice, has no level above 32
abbrev pub ShapeBoundsLevel : Type 0
ShapeBoundsLevel = (dims most : ℕ) (t : Tree) → HasLooseShape dims most t → ((n : ℕ) → occurs_in n t ≤ 1)
    → ((n : ℕ) → 0 < occurs_in n t → n < 2 ^ 31) → t.level ≤ 32

-- ---- the count of placings

-- each level below the root's takes out one far set at most
abbrev pub InsertionEnds : Type 0
InsertionEnds =
    (dims most : ℕ) (elsewhere : ℕ → ℕ) (branch : Branch) (level : ℕ) (old new : Tree)
    (h : IsInsertion dims most elsewhere branch level old new) → h.count ≤ 1 + far_count most * old.level
