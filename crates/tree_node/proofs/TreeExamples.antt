-- Worked examples of trees: what they hold, and which have a shape. No lemma rests on them.
use Rattle.std.proofs.Common.{◌≡◌, ℕ, zero, suc, ◌<◌, ◌≤ℤ◌, [], ◌∷◌, refl, arith, pos}
use Rattle.box_math.specs.Bounds.{Bounds, IsBox, IsSpan, Within, on_axis}
use Rattle.tree_node.specs.Shape.{RowWithin, HasLooseShape, HasShape, IsLeastBox, least_entries}
use Rattle.tree_node.specs.Trees.{tree_with_node, Row, leaf_ids, end, more, object, child, Tree, objects_in}
use Rattle.tree_node.specs.Trees.{occurs_in, row_items}

-- the box of one point of the plane
abbrev pub point : ℕ → ℕ → Bounds
point x y = record { low = pos x ∷ pos y ∷ []; high = pos x ∷ pos y ∷ [] }

-- a box of the plane
abbrev pub box : ℕ → ℕ → ℕ → ℕ → Bounds
box x y x' y' = record { low = pos x ∷ pos y ∷ []; high = pos x' ∷ pos y' ∷ [] }

-- two leaves of two points each, two of which have a tag, and the root above them
abbrev pub left : Row
left = more (object (point 0 0, 3) 7) (more (object (point 0 1, 0) 5) end)

abbrev pub right : Row
right = more (object (point 2 2, 0) 6) (more (object (point 3 2, 4294967295) 8) end)

abbrev pub tree : Tree
tree = record {
  page = 5;
  level = 1;
  row = more (child (box 0 0 0 1) 3 left) (more (child (box 2 2 3 2) 4 right) end);
}

-- the leaves are read from left to right, each by position
its_objects : objects_in
    tree.row ≡ (7, (point 0 0, 3)) ∷ (5, (point 0 1, 0)) ∷ (6, (point 2 2, 0)) ∷ (8, (point 3 2, 4294967295))
    ∷ []
its_objects = refl

-- the root's entries refer to the pages of its children
its_root : row_items
    tree.row ≡ record { bounds = box 0 0 0 1; reference = 3; tag = 0 }
    ∷ record { bounds = box 2 2 3 2; reference = 4; tag = 0 } ∷ []
its_root = refl

-- and those of a leaf to its objects, with their tags
its_left : row_items
    left ≡ record { bounds = point 0 0; reference = 7; tag = 3 }
    ∷ record { bounds = point 0 1; reference = 5; tag = 0 } ∷ []
its_left = refl

its_pages : (occurs_in 5 tree ≡ 1) × (occurs_in 3 tree ≡ 1) × (occurs_in 4 tree ≡ 1) × (occurs_in 6 tree ≡ 0)
its_pages = (refl, refl, refl, refl)

-- a leaf is replaced, and the entries of the root stay
a_leaf_is_replaced : tree_with_node tree 4
    left ≡ record {
      page = 5;
      level = 1;
      row = more (child (box 0 0 0 1) 3 left) (more (child (box 2 2 3 2) 4 left) end);
    }
a_leaf_is_replaced = refl

-- and so is the root
the_root_is_replaced : tree_with_node tree 5
    (more (child (box 2 2 3 2) 4 right) end)
    ≡ record { page = 5; level = 1; row = more (child (box 2 2 3 2) 4 right) end }
the_root_is_replaced = refl

-- the leaves, and a leaf that is a root
its_leaves : (leaf_ids 1 tree.row ≡ (7 ∷ 5 ∷ []) ∷ (6 ∷ 8 ∷ []) ∷ []) × (leaf_ids 0 left ≡ (7 ∷ 5 ∷ []) ∷ [])
    × (leaf_ids 0 end ≡ [] ∷ [])
its_leaves = (refl, refl, refl)

-- ---- shapes

-- the least count is rounded down
some_least_entries : (least_entries 4 ≡ 2) × (least_entries 8 ≡ 3) × (least_entries 50 ≡ 20)
    × (least_entries 99 ≡ 39)
some_least_entries = (refl, refl, refl, refl)

on_two_axes : (P : ℕ → Type 0) → P 0 → P 1 → (axis : ℕ) → axis < 2 → P axis
on_two_axes P p q zero lt = p
on_two_axes P p q (suc zero) lt = q
on_two_axes P p q (suc (suc n)) lt = absurd (omega (arith, lt))

-- on an axis the first box is within the second
abbrev WithinOn : Bounds → Bounds → ℕ → Type 0
WithinOn a b axis = (on_axis b.low axis ≤ℤ on_axis a.low axis) × (on_axis a.high axis ≤ℤ on_axis b.high axis)

within : (a b : Bounds) → WithinOn a b 0 → WithinOn a b 1 → Within 2 a b
within a b p q = on_two_axes (WithinOn a b) p q

-- the least box around two points: it encloses them, and any that does
around_left : RowWithin 2 left (box 0 0 0 1)
around_left = (
  within (point 0 0) (box 0 0 0 1) (omega arith, omega arith) (omega arith, omega arith),
  (within (point 0 1) (box 0 0 0 1) (omega arith, omega arith) (omega arith, omega arith), tt),
)

least_around_left : (c : Bounds) → RowWithin 2 left c → Within 2 (box 0 0 0 1) c
least_around_left c h =
    within (box 0 0 0 1) c (h.0 0 (omega arith)) ((h.0 1 (omega arith)).0, (h.1.0 1 (omega arith)).1)

left_is_a_box : IsBox 2 (box 0 0 0 1)
left_is_a_box = record {
  lows = refl;
  highs = refl;
  spans = on_two_axes (λ axis. IsSpan (on_axis (box 0 0 0 1).low axis) (on_axis (box 0 0 0 1).high axis))
      (record { low_fits = omega arith; high_fits = omega arith; ordered = omega arith })
      (record { low_fits = omega arith; high_fits = omega arith; ordered = omega arith });
}

least_is_left : IsLeastBox 2 (box 0 0 0 1) left
least_is_left =
    record { box = left_is_a_box; encloses = around_left; least = λ c is h. least_around_left c h }

a_larger_box_is_not_least : IsLeastBox 2 (box 0 0 0 2) left → ⊥
a_larger_box_is_not_least h =
    absurd (omega (arith, (h.least (box 0 0 0 1) left_is_a_box around_left 1 (omega arith)).1))

-- the box of one entry is the least around it
one_box_is_least : (dims : ℕ) (b : Bounds) (tag id : ℕ) → IsBox dims b → Within dims b b
    → IsLeastBox dims b (more (object (b, tag) id) end)
one_box_is_least dims b tag id is self = record { box = is; encloses = (self, tt); least = λ c box h. h.0 }

-- a root that is no leaf has two entries, or one in a loose shape
a_root_of_one_child : (dims : ℕ) (b : Bounds) (row : Row)
    → HasShape dims 4 (record { page = 5; level = 1; row = more (child b 3 row) end }) → ⊥
a_root_of_one_child dims b row h = absurd (omega (arith, h.some (omega arith)))

a_loose_root_of_no_child : (dims : ℕ) → HasLooseShape dims 4 (record { page = 5; level = 1; row = end }) → ⊥
a_loose_root_of_no_child dims h = absurd (omega (arith, h.some (omega arith)))

-- an empty root that is a leaf has the shape
an_empty_leaf_has_shape : (dims : ℕ) → HasShape dims 4 (record { page = 5; level = 0; row = end })
an_empty_leaf_has_shape dims =
    record { levels = tt; few = omega arith; some = λ h. absurd (omega (arith, h)); below = tt }

-- an object beside a child, and children of a leaf, have no shape
leaves_on_two_levels : (dims : ℕ) (b c : Bounds)
    → HasShape dims 4
    (record { page = 5; level = 1; row = more (child b 3 left) (more (object (c, 0) 1) end) }) → ⊥
leaves_on_two_levels dims b c h = absurd (omega (arith, h.levels.2.0))

children_of_a_leaf : (dims : ℕ) → HasShape dims 4 (record { page = 5; level = 0; row = tree.row }) → ⊥
children_of_a_leaf dims h = absurd (omega (arith, h.levels.0))

-- a leaf below the root has the least count of entries
a_leaf_of_one_object : (dims : ℕ) (b c : Bounds)
    → HasShape dims 4
    (record {
      page = 5;
      level = 1;
      row = more (child b 3 (more (object (c, 0) 1) end)) (more (child b 4 left) end);
    }) → ⊥
a_leaf_of_one_object dims b c h = absurd (omega (arith, h.below.0))
