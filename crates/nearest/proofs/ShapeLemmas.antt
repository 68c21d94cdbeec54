-- In a tree with least boxes no box is nearer than the one above it.
use Rattle.std.proofs.Common.{◌≡◌, ℕ, ◌≤◌, ◌∙◌, ℤ, ◌-ℤ◌, ◌≤ℤ◌, unsigned_abs, List, map, ◌∷◌, ◌++◌, refl, sym}
use Rattle.std.proofs.Common.{ap, arith}
use Rattle.std.specs.Int.{int_min, int_max}
use Rattle.std.proofs.lemmas.Int.{ints, clamps}
use Rattle.std.proofs.lemmas.List.{map-append}
use Rattle.std.proofs.lemmas.Nat.{mul-le}
use Rattle.box_math.specs.Bounds.{Bounds, IsOrdered, Within, on_axis}
use Rattle.box_math.specs.Objects.{bounds_of}
use Rattle.box_math.specs.Measures.{point_dist2_of}
use Rattle.box_math.proofs.Growth.{sum_over-le, point_dist2_of-falls}
use Rattle.tree_node.specs.Shape.{RowHasShape, RowWithin}
use Rattle.tree_node.specs.Trees.{Row, end, more, object, child, objects_in}
use Rattle.node_page.proofs.RootedLemmas.{HasOrderedBoxes}
use Rattle.box_math.specs.Nearest.{with_distance}
use Rattle.nearest.proofs.FrontierLemmas.{Nested, near_in}

clamp_falls : (low high inner_low inner_high p : ℤ) → inner_low ≤ℤ inner_high → low ≤ℤ inner_low
    → inner_high ≤ℤ high
    → unsigned_abs (p -ℤ int_max low (int_min p high)) ≤ unsigned_abs
    (p -ℤ int_max inner_low (int_min p inner_high))
clamp_falls low high inner_low inner_high p ordered l h = omega (arith, ints, clamps)

-- a box that encloses another is no farther
falls : (dims : ℕ) (a b : Bounds) (p : List ℤ) → IsOrdered dims a.low a.high → Within dims a b
    → point_dist2_of dims b p ≤ point_dist2_of dims a p
falls dims a b p ordered w =
    sum_over-le dims _ _
    (λ axis h.
    let u = w axis h in
    let e = clamp_falls (on_axis b.low axis) (on_axis b.high axis) (on_axis a.low axis) (on_axis a.high axis)
    (on_axis p axis) (ordered axis h) u.0 u.1 in
    mul-le _ _ _ _ e e)

pub nested_within : (dims most : ℕ) (point : List ℤ) (d : ℕ) (b : Bounds) (row : Row)
    → d ≤ point_dist2_of dims b point → RowWithin dims row b → RowHasShape dims most row
    → HasOrderedBoxes dims row
    → Nested (λ c. point_dist2_of dims c point) d row
nested_within dims most point d b end near within shape ordered = tt
nested_within dims most point d b (more (object kept id) rest) near within shape ordered = (
  omega (arith, near, falls dims (bounds_of kept) b point ordered.0 within.0),
  nested_within dims most point d b rest near within.1 shape ordered.1,
)
nested_within dims most point d b (more (child bounds page below) rest) near within shape ordered = (
  omega (arith, near, point_dist2_of-falls dims bounds b point shape.2.box within.0),
  nested_within dims most point (point_dist2_of dims bounds point) bounds below (omega arith)
      shape.2.encloses shape.3 ordered.0,
  nested_within dims most point d b rest near within.1 shape.4 ordered.1,
)

-- from the root on
pub nested_root : (dims most : ℕ) (point : List ℤ) (row : Row) → RowHasShape dims most row
    → HasOrderedBoxes dims row → Nested (λ c. point_dist2_of dims c point) 0 row
nested_root dims most point end shape ordered = tt
nested_root dims most point (more (object kept id) rest) shape ordered =
    (omega arith, nested_root dims most point rest shape ordered.1)
nested_root dims most point (more (child bounds page below) rest) shape ordered = (
  omega arith,
  nested_within dims most point (point_dist2_of dims bounds point) bounds below (omega arith)
      shape.2.encloses shape.3 ordered.0,
  nested_root dims most point rest shape.4 ordered.1,
)

-- the objects of a tree with their distances
pub near_in_is : (dims : ℕ) (point : List ℤ) (row : Row)
    → near_in (λ c. point_dist2_of dims c point) row ≡ map (with_distance dims point) (objects_in row)
near_in_is dims point end = refl
near_in_is dims point (more (object kept id) rest) =
    ap (λ (xs : List (ℕ × ℕ)). (id, point_dist2_of dims (bounds_of kept) point) ∷ xs)
    (near_in_is dims point rest)
near_in_is dims point (more (child bounds page below) rest) =
    let first = near_in_is dims point below in
    let later = near_in_is dims point rest in
    let both = map-append (with_distance dims point) (objects_in below) (objects_in rest) in
    ap (λ (xs : List (ℕ × ℕ)). xs ++ near_in (λ c. point_dist2_of dims c point) rest) first
    ∙ ap (λ (xs : List (ℕ × ℕ)). map (with_distance dims point) (objects_in below) ++ xs) later ∙ sym both
