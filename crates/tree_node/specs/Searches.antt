-- What a search of a tree finds, and how many nodes it has to look at (Guttman 1984; our rule,
-- docs/FORMAT.md, "Trees of pages").
use Rattle.std.specs.Prelude.{◌≡◌, ℕ, ◌+◌, ◌-◌, ◌^◌, min, Bool, true, if◌then◌else◌, List, [], ◌∷◌, ◌++◌}
use Rattle.std.specs.List.{filter}
use Rattle.box_math.specs.Bounds.{Bounds, IsBox, Within}
use Rattle.box_math.specs.Objects.{Object, bounds_of}
use Rattle.tree_node.specs.Trees.{Row, end, more, object, child, Tree, objects_in}

-- ---- what is found

-- the objects whose box passes the test, from left to right
abbrev pub passing_objects : (Bounds → Bool) → Row → List (ℕ × Object)
passing_objects test row = filter (λ object. test (bounds_of object.1)) (objects_in row)

-- the same, of those that are reached through boxes that pass the other test
abbrev pub objects_reached : (Bounds → Bool) → (Bounds → Bool) → Row → List (ℕ × Object)
objects_reached guard test end = []
objects_reached guard test (more (object kept id) rest) =
    (if test (bounds_of kept) then (id, kept) ∷ [] else []) ++ objects_reached guard test rest
objects_reached guard test (more (child bounds page below) rest) =
    (if guard bounds then objects_reached guard test below else []) ++ objects_reached guard test rest

-- a box passes the first test where one within it passes the second
abbrev pub Guards : ℕ → (Bounds → Bool) → (Bounds → Bool) → Type 0
Guards dims guard test = (a b : Bounds) → IsBox dims a → Within dims a b → test a ≡ true → guard b ≡ true

-- ---- how many nodes are looked at

-- the nodes below that are reached through boxes that pass the test
abbrev pub reached : (Bounds → Bool) → Row → ℕ
reached test end = 0
reached test (more (object kept id) rest) = reached test rest
reached test (more (child bounds page below) rest) =
    (if test bounds then 1 + reached test below else 0) + reached test rest

-- those whose own box passes it, whatever boxes are above them
abbrev pub passing : (Bounds → Bool) → Row → ℕ
passing test end = 0
passing test (more (object kept id) rest) = passing test rest
passing test (more (child bounds page below) rest) =
    (if test bounds then 1 else 0) + passing test below + passing test rest

-- the nodes that a search admits: the root, and each other node whose box passes the test
abbrev pub admitted : (Bounds → Bool) → Tree → ℕ
admitted test t = 1 + passing test t.row

-- all nodes
abbrev pub nodes_in : Tree → ℕ
nodes_in t = admitted (λ bounds. true) t

-- a count after so many more, up to the greatest u64
abbrev pub counted : ℕ → ℕ → ℕ
counted before others = min (before + others) (2 ^ 64 - 1)
