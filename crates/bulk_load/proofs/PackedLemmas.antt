-- Packed trees: their shape, and their objects.
use Rattle.std.proofs.Common.{◌≡◌, ◌∙◌, ℕ, suc, ◌+◌, ◌-◌, ◌/◌, ◌<◌, ◌≤◌, List, [], ◌∷◌, length, All}
use Rattle.std.proofs.Common.{IsPermutation, refl, sym, ap, subst, arith, length-append}
use Rattle.std.proofs.lemmas.List.Elements.{All-tail}
use Rattle.std.proofs.lemmas.List.Sorted.{length_permutation}
use Rattle.box_math.specs.Bounds.{IsDims}
use Rattle.box_math.specs.Objects.{Object}
use Rattle.tree_node.specs.Nodes.{Item}
use Rattle.tree_node.specs.Positions.{total}
use Rattle.tree_node.specs.Rows.{item_in, objects_on, row_of}
use Rattle.tree_node.specs.Shape.{HasShape, IsLeastBox, RowHasShape, least_entries}
use Rattle.tree_node.specs.Trees.{Row, Branch, object, child, Tree, RowOnLevel, objects_in, row_length}
use Rattle.tree_node.proofs.ObjectLemmas.{equal_sums_permute}
use Rattle.tree_node.proofs.PositionLemmas.{total-append}
use Rattle.node_page.specs.Checked.{pairs_of}
use Rattle.bulk_load.specs.Packed.{AreParents, Packs, higher, root, objects_of}
use Rattle.bulk_load.specs.PackedLaws.{PackedHasShape, PackedHoldsObjects}
use Rattle.bulk_load.specs.Tiling.{IsTiled, joined}
use Rattle.bulk_load.specs.TilingLaws.{IsFair}
use Rattle.bulk_load.proofs.RowWords.{levels_by_entry, row_back, row_front, row_length-row_of, row_permuted}
use Rattle.bulk_load.proofs.RowWords.{shape_by_entry, total-permutation}
use Rattle.bulk_load.proofs.TilingLemmas.{fair_on, holds_on}

-- the runs of more than one node are fair
pub fair_runs : (dims most : ℕ) (entries : List Branch) (runs : List (List Branch)) → IsDims dims → 0 < most
    → most < length entries → IsTiled item_in dims most entries runs → All (IsFair most) runs
fair_runs dims most entries runs is some more_than tiled =
    fair_on item_in dims most dims entries runs some
    (omega arith, λ none. absurd (omega (arith, is.0, none))) tiled

pub parents_count : (dims : ℕ) (runs : List (List Branch)) (parents : List Branch)
    → AreParents dims runs parents → length parents ≡ length runs
parents_count dims [] [] are = refl
parents_count dims [] (p ∷ ps) are = absurd are
parents_count dims (run ∷ runs) [] are = absurd are
parents_count dims (run ∷ runs) (object kept id ∷ ps) are = absurd are
parents_count dims (run ∷ runs) (child bounds page below ∷ ps) are = ap suc (parents_count dims runs ps are.2)

-- ---- shape

parents_on_level : (dims level : ℕ) (runs : List (List Branch)) (parents : List Branch)
    → AreParents dims runs parents → RowOnLevel level (row_of (joined runs))
    → RowOnLevel (suc level) (row_of parents)
parents_on_level dims level [] [] are on = tt
parents_on_level dims level [] (p ∷ ps) are on = absurd are
parents_on_level dims level (run ∷ runs) [] are on = absurd are
parents_on_level dims level (run ∷ runs) (object kept id ∷ ps) are on = absurd are
parents_on_level dims level (run ∷ runs) (child bounds page below ∷ ps) are on =
    let one_down : level ≡ suc level - 1 = omega arith in
    let own : RowOnLevel level (row_of run) =
    row_front (RowOnLevel level) (levels_by_entry level) run (joined runs) on in (
      omega arith,
      subst (λ (l : ℕ). RowOnLevel l below) one_down
          (subst (λ (row : Row). RowOnLevel level row) (sym are.0) own),
      parents_on_level dims level runs ps are.2
          (row_back (RowOnLevel level) (levels_by_entry level) run (joined runs) on),
    )

half_is_enough : (most : ℕ) → 4 ≤ most → least_entries most ≤ (most + 1) / 2
half_is_enough most four = omega (arith, four)

parents_shape : (dims most : ℕ) (runs : List (List Branch)) (parents : List Branch) → 4 ≤ most
    → All (IsFair most) runs → AreParents dims runs parents
    → RowHasShape dims most (row_of (joined runs)) → RowHasShape dims most (row_of parents)
parents_shape dims most [] [] four fair are shape = tt
parents_shape dims most [] (p ∷ ps) four fair are shape = absurd are
parents_shape dims most (run ∷ runs) [] four fair are shape = absurd are
parents_shape dims most (run ∷ runs) (object kept id ∷ ps) four fair are shape = absurd are
parents_shape dims most (run ∷ runs) (child bounds page below ∷ ps) four fair are shape =
    let one = fair 0 run (omega arith) in
    let many : row_length below ≡ length run = ap row_length are.0 ∙ row_length-row_of run in (
      omega (arith, half_is_enough most four, one.0, many),
      omega (arith, one.1, many),
      subst (λ (row : Row). IsLeastBox dims bounds row) (sym are.0) are.1,
      subst (λ (row : Row). RowHasShape dims most row) (sym are.0)
          (row_front (RowHasShape dims most) (shape_by_entry dims most) run (joined runs) shape),
      parents_shape dims most runs ps four (All-tail (IsFair most) run runs fair) are.2
          (row_back (RowHasShape dims most) (shape_by_entry dims most) run (joined runs) shape),
    )

pub two_runs : {A : Type 0} (most : ℕ) (runs : List (List A)) → All (IsFair most) runs
    → most < length (joined runs) → 2 ≤ length runs
two_runs most [] fair more_than = absurd (omega (arith, more_than))
two_runs most (run ∷ []) fair more_than =
    absurd (omega (arith, more_than, (fair 0 run (omega arith)).1, length-append run []))
two_runs most (run ∷ (other ∷ runs)) fair more_than = omega arith

shape_of : (dims most level : ℕ) (entries : List Branch) (t : Tree) → IsDims dims → 4 ≤ most
    → Packs dims most level entries t
    → RowOnLevel level (row_of entries) → RowHasShape dims most (row_of entries)
    → (0 < level → 2 ≤ length entries) → HasShape dims most t
shape_of dims most _ _ _ is four (root level page entries few) on shape some =
    let many : row_length (row_of entries) ≡ length entries = row_length-row_of entries in
    record {
      levels = on;
      few = omega (arith, many, few);
      some = λ above. omega (arith, many, some above);
      below = shape;
    }
shape_of dims most _ _ _ is four (higher level entries runs parents t more_than tiled are packs) on shape
    some =
    let fair : All (IsFair most) runs =
    fair_runs dims most entries runs is (omega (arith, four)) more_than tiled in
    let same : IsPermutation entries (joined runs) = holds_on item_in dims most dims entries runs tiled in
    shape_of dims most (suc level) parents t is four packs
    (parents_on_level dims level runs parents are
    (row_permuted (RowOnLevel level) (levels_by_entry level) entries (joined runs) same on))
    (parents_shape dims most runs parents four fair are
    (row_permuted (RowHasShape dims most) (shape_by_entry dims most) entries (joined runs) same shape))
    (λ above. omega (
      arith,
      parents_count dims runs parents are,
      two_runs most runs fair (omega (arith, more_than, length_permutation entries (joined runs) same)),
    ))

objects_on_level : (items : List Item) → RowOnLevel 0 (row_of (objects_of items))
objects_on_level [] = tt
objects_on_level (item ∷ items) = (refl, objects_on_level items)

objects_have_shape : (dims most : ℕ) (items : List Item) → RowHasShape dims most (row_of (objects_of items))
objects_have_shape dims most [] = tt
objects_have_shape dims most (item ∷ items) = objects_have_shape dims most items

pub packed_has_shape : PackedHasShape
packed_has_shape dims most items t is four packed =
    shape_of dims most 0 (objects_of items) t is four packed (objects_on_level items)
    (objects_have_shape dims most items) (λ above. absurd (omega (arith, above)))

-- ---- objects

pub objects_total : (f : ℕ × Object → ℕ) (bs : List Branch)
    → total f (objects_in (row_of bs)) ≡ total (λ (b : Branch). total f (objects_on b)) bs
objects_total f [] = refl
objects_total f (object kept id ∷ bs) = omega (arith, objects_total f bs)
objects_total f (child bounds page below ∷ bs) =
    omega (arith, total-append f (objects_in below) (objects_in (row_of bs)), objects_total f bs)

parents_hold : (f : ℕ × Object → ℕ) (dims : ℕ) (runs : List (List Branch)) (parents : List Branch)
    → AreParents dims runs parents
    → total (λ (b : Branch). total f (objects_on b)) parents ≡ total (λ (b : Branch). total f (objects_on b))
    (joined runs)
parents_hold f dims [] [] are = refl
parents_hold f dims [] (p ∷ ps) are = absurd are
parents_hold f dims (run ∷ runs) [] are = absurd are
parents_hold f dims (run ∷ runs) (object kept id ∷ ps) are = absurd are
parents_hold f dims (run ∷ runs) (child bounds page below ∷ ps) are = omega (
  arith,
  ap (λ (row : Row). total f (objects_in row)) are.0,
  objects_total f run,
  total-append (λ (b : Branch). total f (objects_on b)) run (joined runs),
  parents_hold f dims runs ps are.2,
)

objects_packed : (f : ℕ × Object → ℕ) (dims most level : ℕ) (entries : List Branch) (t : Tree)
    → Packs dims most level entries t
    → total f (objects_in t.row) ≡ total (λ (b : Branch). total f (objects_on b)) entries
objects_packed f dims most _ _ _ (root level page entries few) = objects_total f entries
objects_packed f dims most _ _ _ (higher level entries runs parents t more_than tiled are packs) =
    objects_packed f dims most (suc level) parents t packs ∙ parents_hold f dims runs parents are
    ∙ total-permutation (λ (b : Branch). total f (objects_on b)) entries (joined runs)
    (holds_on item_in dims most dims entries runs tiled)

objects_are : (items : List Item) → objects_in (row_of (objects_of items)) ≡ pairs_of items
objects_are [] = refl
objects_are (item ∷ items) =
    ap (λ (os : List (ℕ × Object)). (item.reference, (item.bounds, item.tag)) ∷ os) (objects_are items)

pub packed_holds_objects : PackedHoldsObjects
packed_holds_objects dims most items t packed = equal_sums_permute (pairs_of items) (objects_in t.row)
    (λ f. ap (total f) (sym (objects_are items)) ∙ objects_total f (objects_of items)
    ∙ sym (objects_packed f dims most 0 (objects_of items) t packed))

-- what the laws of packed trees are proved by
pub ruleset packed_laws = (packed_has_shape, packed_holds_objects)
