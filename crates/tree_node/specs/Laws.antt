-- The laws of trees as values.
use Rattle.std.specs.Prelude.{◌≡◌, ℕ, ◌+◌, ◌*◌, ◌^◌, ◌<◌, ◌≤◌, Bool, List, length, IsPermutation}
use Rattle.box_math.specs.Bounds.{Bounds}
use Rattle.box_math.specs.Objects.{Object}
use Rattle.tree_node.specs.Boxes.{RowHasBoxes, least_box}
use Rattle.tree_node.specs.Joins.{admitted_pairs, boxes_below, count_passing}
use Rattle.tree_node.specs.Positions.{AreParts, pick, total}
use Rattle.tree_node.specs.Searches.{Guards, admitted, counted, nodes_in, objects_reached, passing_objects}
use Rattle.tree_node.specs.Searches.{reached}
use Rattle.tree_node.specs.Shape.{HasLooseShape, IsLeastBox}
use Rattle.tree_node.specs.Trees.{Row, Tree, row_items, row_length}

-- ---- boxes

-- a node has one least box
abbrev pub OneLeastBox : Type 0
OneLeastBox = (dims : ℕ) (a b : Bounds) (row : Row) → IsLeastBox dims a row → IsLeastBox dims b row → a ≡ b

-- it is the join of its boxes
abbrev pub JoinIsLeastBox : Type 0
JoinIsLeastBox = (dims : ℕ) (row : Row) → 0 < row_length row → RowHasBoxes dims row
    → IsLeastBox dims (least_box dims (row_items row)) row

-- ---- searches

-- under the shape a node is reached exactly where its own box passes
abbrev pub AdmittedAreReached : Type 0
AdmittedAreReached = (dims most : ℕ) (t : Tree) (test : Bounds → Bool) → HasLooseShape dims most t
    → Guards dims test test → admitted test t ≡ 1 + reached test t.row

-- the nodes that a search admits are the root and those of which a box passes
abbrev pub AdmittedAreCounted : Type 0
AdmittedAreCounted = (t : Tree) (test : Bounds → Bool)
    → admitted test t ≡ 1 + count_passing test (boxes_below t.row)

-- under the shape a search through the boxes of children misses no object
abbrev pub NoObjectIsMissed : Type 0
NoObjectIsMissed = (dims most : ℕ) (t : Tree) (guard test : Bounds → Bool) → HasLooseShape dims most t
    → RowHasBoxes dims t.row → Guards dims guard test
    → objects_reached guard test t.row ≡ passing_objects test t.row

-- a join admits as many pairs either way round
abbrev pub PairsGoBothWays : Type 0
PairsGoBothWays = (dims within : ℕ) (s t : Tree)
    → admitted_pairs dims within s t ≡ admitted_pairs dims within t s

-- and no more than there are
abbrev pub PairsAreOfNodes : Type 0
PairsAreOfNodes = (dims within : ℕ) (s t : Tree) → admitted_pairs dims within s t ≤ nodes_in s * nodes_in t

-- ---- counts up to the greatest u64

-- counting on is counting all at once
abbrev pub CountsGoOn : Type 0
CountsGoOn = (before a b : ℕ) → counted (counted before a) b ≡ counted before (a + b)

-- counting no more changes no count, and counting never falls back
abbrev pub CountsRise : Type 0
CountsRise = (before others : ℕ) → before < 2 ^ 64
    → (counted before 0 ≡ before) × (before ≤ counted before others) × (counted before others < 2 ^ 64)

-- ---- positions and objects

-- what is picked at two parts of the positions has together what the list has
abbrev pub PartsHaveAll : Type 0 → Type 0
PartsHaveAll A = (f : A → ℕ) (xs : List A) (a b : List ℕ) → AreParts a b (length xs)
    → total f (pick xs a) + total f (pick xs b) ≡ total f xs

-- two lists of objects of which each sum over the elements is the same have the same elements
abbrev pub EqualSumsPermute : Type 0
EqualSumsPermute = (xs ys : List (ℕ × Object)) → ((f : ℕ × Object → ℕ) → total f xs ≡ total f ys)
    → IsPermutation xs ys
