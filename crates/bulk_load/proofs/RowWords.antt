-- Words on rows that hold entry by entry, and sums over the entries of a row.
use Rattle.std.proofs.Common.{◌≡◌, ℕ, ◌+◌, List, [], ◌∷◌, ◌++◌, length, All, IsPermutation, refl, arith}
use Rattle.std.specs.Prelude.{fold}
use Rattle.std.proofs.lemmas.List.Elements.{All-append, All-cons, All-nil, All-tail}
use Rattle.std.proofs.lemmas.List.Sorted.{All-permutation, sum_by-IsPermutation}
use Rattle.tree_node.specs.Boxes.{RowHasBoxes}
use Rattle.tree_node.specs.Positions.{total}
use Rattle.tree_node.specs.Rows.{row_of}
use Rattle.tree_node.specs.Shape.{RowHasShape}
use Rattle.tree_node.specs.Trees.{Row, end, more, Branch, object, child, RowOnLevel, row_length}
use Rattle.node_page.specs.Standing.{PageMap, RowStands}

-- a word on rows that holds of one where it holds of each entry by itself
pub record ByEntry (R : Row → Type 0) : Type 0 where
  pub none : R end
  pub glue : (b : Branch) (row : Row) → R (more b end) → R row → R (more b row)
  pub first : (b : Branch) (row : Row) → R (more b row) → R (more b end)
  pub later : (b : Branch) (row : Row) → R (more b row) → R row

each_of : (R : Row → Type 0) → ByEntry R → (bs : List Branch) → R (row_of bs)
    → All (λ (b : Branch). R (more b end)) bs
each_of R by [] row = All-nil (λ (b : Branch). R (more b end))
each_of R by (b ∷ bs) row =
    All-cons (λ (b : Branch). R (more b end)) b bs (by.first b (row_of bs) row)
    (each_of R by bs (by.later b (row_of bs) row))

row_from : (R : Row → Type 0) → ByEntry R → (bs : List Branch) → All (λ (b : Branch). R (more b end)) bs
    → R (row_of bs)
row_from R by [] all = by.none
row_from R by (b ∷ bs) all =
    by.glue b (row_of bs) (all 0 b (omega arith))
    (row_from R by bs (All-tail (λ (b : Branch). R (more b end)) b bs all))

-- of entries in another order, of two lists of entries, and of each of the two
pub row_permuted : (R : Row → Type 0) → ByEntry R → (xs ys : List Branch) → IsPermutation xs ys
    → R (row_of xs) → R (row_of ys)
row_permuted R by xs ys same row =
    row_from R by ys (All-permutation (λ (b : Branch). R (more b end)) xs ys same (each_of R by xs row))

pub row_together : (R : Row → Type 0) → ByEntry R → (xs ys : List Branch) → R (row_of xs) → R (row_of ys)
    → R (row_of (xs ++ ys))
row_together R by xs ys a b =
    row_from R by (xs ++ ys)
    (All-append (λ (b : Branch). R (more b end)) xs ys (each_of R by xs a) (each_of R by ys b))

pub row_front : (R : Row → Type 0) → ByEntry R → (xs ys : List Branch) → R (row_of (xs ++ ys)) → R (row_of xs)
row_front R by [] ys row = by.none
row_front R by (x ∷ xs) ys row =
    by.glue x (row_of xs) (by.first x (row_of (xs ++ ys)) row)
    (row_front R by xs ys (by.later x (row_of (xs ++ ys)) row))

pub row_back : (R : Row → Type 0) → ByEntry R → (xs ys : List Branch) → R (row_of (xs ++ ys)) → R (row_of ys)
row_back R by [] ys row = row
row_back R by (x ∷ xs) ys row = row_back R by xs ys (by.later x (row_of (xs ++ ys)) row)

-- ---- such words

levels_glue : (level : ℕ) (b : Branch) (row : Row) → RowOnLevel level (more b end) → RowOnLevel level row
    → RowOnLevel level (more b row)
levels_glue level (object kept id) row a r = (a.0, r)
levels_glue level (child bounds page below) row a r = (a.0, a.1, r)

levels_first : (level : ℕ) (b : Branch) (row : Row) → RowOnLevel level (more b row)
    → RowOnLevel level (more b end)
levels_first level (object kept id) row a = (a.0, tt)
levels_first level (child bounds page below) row a = (a.0, a.1, tt)

levels_later : (level : ℕ) (b : Branch) (row : Row) → RowOnLevel level (more b row) → RowOnLevel level row
levels_later level (object kept id) row a = a.1
levels_later level (child bounds page below) row a = a.2

pub levels_by_entry : (level : ℕ) → ByEntry (RowOnLevel level)
levels_by_entry level =
    record { none = tt; glue = levels_glue level; first = levels_first level; later = levels_later level }

shape_glue : (dims most : ℕ) (b : Branch) (row : Row) → RowHasShape dims most (more b end)
    → RowHasShape dims most row → RowHasShape dims most (more b row)
shape_glue dims most (object kept id) row a r = r
shape_glue dims most (child bounds page below) row a r = (a.0, a.1, a.2, a.3, r)

shape_first : (dims most : ℕ) (b : Branch) (row : Row) → RowHasShape dims most (more b row)
    → RowHasShape dims most (more b end)
shape_first dims most (object kept id) row a = tt
shape_first dims most (child bounds page below) row a = (a.0, a.1, a.2, a.3, tt)

shape_later : (dims most : ℕ) (b : Branch) (row : Row) → RowHasShape dims most (more b row)
    → RowHasShape dims most row
shape_later dims most (object kept id) row a = a
shape_later dims most (child bounds page below) row a = a.4

pub shape_by_entry : (dims most : ℕ) → ByEntry (RowHasShape dims most)
shape_by_entry dims most =
    record {
      none = tt;
      glue = shape_glue dims most;
      first = shape_first dims most;
      later = shape_later dims most;
    }

boxes_glue : (dims : ℕ) (b : Branch) (row : Row) → RowHasBoxes dims (more b end) → RowHasBoxes dims row
    → RowHasBoxes dims (more b row)
boxes_glue dims (object kept id) row a r = (a.0, r)
boxes_glue dims (child bounds page below) row a r = (a.0, a.1, r)

boxes_first : (dims : ℕ) (b : Branch) (row : Row) → RowHasBoxes dims (more b row)
    → RowHasBoxes dims (more b end)
boxes_first dims (object kept id) row a = (a.0, tt)
boxes_first dims (child bounds page below) row a = (a.0, a.1, tt)

boxes_later : (dims : ℕ) (b : Branch) (row : Row) → RowHasBoxes dims (more b row) → RowHasBoxes dims row
boxes_later dims (object kept id) row a = a.1
boxes_later dims (child bounds page below) row a = a.2

pub boxes_by_entry : (dims : ℕ) → ByEntry (RowHasBoxes dims)
boxes_by_entry dims =
    record { none = tt; glue = boxes_glue dims; first = boxes_first dims; later = boxes_later dims }

stands_glue : (dims : ℕ) (pages : PageMap) (level : ℕ) (b : Branch) (row : Row)
    → RowStands dims pages level (more b end) → RowStands dims pages level row
    → RowStands dims pages level (more b row)
stands_glue dims pages level (object kept id) row a r = (a.0, r)
stands_glue dims pages level (child bounds page below) row a r = (a.0, a.1, a.2, r)

stands_first : (dims : ℕ) (pages : PageMap) (level : ℕ) (b : Branch) (row : Row)
    → RowStands dims pages level (more b row) → RowStands dims pages level (more b end)
stands_first dims pages level (object kept id) row a = (a.0, tt)
stands_first dims pages level (child bounds page below) row a = (a.0, a.1, a.2, tt)

stands_later : (dims : ℕ) (pages : PageMap) (level : ℕ) (b : Branch) (row : Row)
    → RowStands dims pages level (more b row) → RowStands dims pages level row
stands_later dims pages level (object kept id) row a = a.1
stands_later dims pages level (child bounds page below) row a = a.3

pub stands_by_entry : (dims : ℕ) (pages : PageMap) (level : ℕ) → ByEntry (RowStands dims pages level)
stands_by_entry dims pages level =
    record {
      none = tt;
      glue = stands_glue dims pages level;
      first = stands_first dims pages level;
      later = stands_later dims pages level;
    }

-- ---- sums

fold_total : {A : Type 0} (f : A → ℕ) (a : ℕ) (xs : List A) → fold (λ b x. b + f x) a xs ≡ a + total f xs
fold_total f a [] = omega arith
fold_total f a (x ∷ xs) = omega (arith, fold_total f (a + f x) xs)

pub total-permutation : {A : Type 0} (f : A → ℕ) (xs ys : List A) → IsPermutation xs ys
    → total f ys ≡ total f xs
total-permutation f xs ys same =
    omega (arith, fold_total f 0 xs, fold_total f 0 ys, sum_by-IsPermutation f xs ys same)

pub row_length-row_of : (bs : List Branch) → row_length (row_of bs) ≡ length bs
row_length-row_of [] = refl
row_length-row_of (b ∷ bs) = omega (arith, row_length-row_of bs)
