-- The overlaps that are counted in an outline are those of siblings.
use Rattle.std.proofs.Common.{◌≡◌, ◌∙◌, ℕ, zero, suc, ◌+◌, ◌-◌, ◌<◌, ◌≤◌, ◌++◌, ◌∷◌, [], List, Bool, true, false, cond}
use Rattle.std.proofs.Common.{eqb, Option, None, Some, refl, sym, ap, ap₂, subst, arith, ⊎_elim}
use Rattle.std.specs.Prelude.{nat_lt}
use Rattle.std.proofs.lemmas.Bool.{cases_lt}
use Rattle.std.proofs.lemmas.Bool.Decides.{nat_tests}
use Rattle.std.proofs.lemmas.List.{append_assoc, append-nil}
use Rattle.box_math.specs.Bounds.{Bounds}
use Rattle.tree_node.specs.Boxes.{RowHasBoxes}
use Rattle.tree_node.specs.Nodes.{NodeContent}
use Rattle.tree_node.specs.Shape.{IsLeastBox, RowHasShape}
use Rattle.tree_node.specs.Trees.{Row, RowOnLevel, end, more, object, child, row_items, row_length}
use Rattle.tree_node.proofs.BoxLemmas.{join_is_least_box, one_least_box}
use Rattle.tree_outline.specs.Outlines.{box_of_entries, outlined, outlines_below}
use Rattle.tree_outline.specs.declared.node.NodeOutline.{NodeOutline}
use Rattle.tree_statistics.specs.Levels.{overlap_after, overlap_at, overlap_if, overlap_of_first, overlap_with}
use Rattle.tree_statistics.specs.Levels.{overlap_with_later}
use Rattle.tree_statistics.specs.Siblings.{CountsSiblings, overlap_beside, sibling_overlap}

-- the least box of a node's entries is the one that the node above has of it
least_here : (dims : ℕ) (b : Bounds) (row : Row) → 0 < row_length row → RowHasBoxes dims row
    → IsLeastBox dims b row → box_of_entries dims (row_items row) ≡ Some b
least_here dims b end some boxes least = absurd (omega (arith, some))
least_here dims b (more (object kept id) rest) some boxes least =
    let row = more (object kept id) rest in
    ap (λ (x : Bounds). Some x) (one_least_box dims _ b row (join_is_least_box dims row some boxes) least)
least_here dims b (more (child bounds page below) rest) some boxes least =
    let row = more (child bounds page below) rest in
    ap (λ (x : Bounds). Some x) (one_least_box dims _ b row (join_is_least_box dims row some boxes) least)

not_above : (level at : ℕ) → at ≤ level → nat_lt level at ≡ false
not_above level at low = grind (arith, nat_tests)

is_above : (level at : ℕ) → level < at → nat_lt level at ≡ true
is_above level at high = grind (arith, nat_tests)

is_same : (a b : ℕ) → a ≡ b → eqb a b ≡ true
is_same a b e = grind (arith, nat_tests)

is_other : (a b : ℕ) → ¬ (a ≡ b) → eqb a b ≡ false
is_other a b ne = grind (arith, nat_tests)

-- the tests of a child's level, and of the node's above it, agree
same_test : (level at : ℕ) → 0 < at → eqb (at - 1) level ≡ eqb at (level + 1)
same_test level at above = grind (arith, nat_tests)

none_either : (t : Bool) → ◌≡◌ {A = ℕ} (cond t 0 0) 0
none_either true = refl
none_either false = refl

both : (t : Bool) (x y z : ℕ) → cond t x 0 + (cond t y 0 + z) ≡ cond t (x + y) 0 + z
both true x y z = omega arith
both false x y z = omega arith

if_false : (t : Bool) (x : ℕ) → t ≡ false → cond t x 0 ≡ 0
if_false true x e = cc
if_false false x e = refl

if_true : (t : Bool) (x y : ℕ) → (t ≡ true → x ≡ y) → cond t x 0 ≡ cond t y 0
if_true true x y so = so refl
if_true false x y so = refl

same_of : (a b : ℕ) → eqb a b ≡ true → a ≡ b
same_of a b e = grind (arith, nat_tests)

module _ (dims most level : ℕ) where
  -- the nodes below one of this level
  abbrev rows : ℕ → Row → List (NodeOutline dims)
  rows at row = outlines_below {D = dims} at row

  abbrev node : ℕ → ℕ → Row → NodeOutline dims
  node page at below = outlined page (record { level = at - 1; entries = row_items below })

  -- a box with the nodes below one that is not above the level's parents
  after_children : (at : ℕ) (b : Bounds) (row : Row) (tail : List (NodeOutline dims)) → at ≤ level + 1
      → RowOnLevel at row → RowHasShape dims most row → RowHasBoxes dims row
      → overlap_after level b (rows at row ++ tail)
      ≡ cond (eqb at (level + 1)) (overlap_beside dims b row) 0 + overlap_after level b tail
  after_children at b end tail low levels shape boxes =
      let none = none_either (eqb at (level + 1)) in omega (arith, none)
  after_children at b (more (object kept id) rest) tail low levels shape boxes =
      after_children at b rest tail low levels.1 shape boxes.1
  after_children at b (more (child c page below) rest) tail low levels shape boxes =
      let n = node page at below in
      let under = rows (at - 1) below in
      let later = rows at rest in
      let test = eqb at (level + 1) in
      let box = least_here dims c below (omega (arith, shape.0)) boxes.1 shape.2 in
      let here : overlap_if level b n ≡ cond test (overlap_with dims b (Some c)) 0 =
      ap₂ (λ (t : Bool) (o : Option Bounds). cond t (overlap_with dims b o) 0)
      (same_test level at levels.0) box in
      let passed =
      ap (λ (t : Bool). cond t 0 (overlap_if level b n + overlap_after level b ((under ++ later) ++ tail)))
      (not_above level (at - 1) (omega (arith, low))) in
      let joined = ap (overlap_after {D = dims} level b) (append_assoc under later tail) in
      let skipped =
      after_children (at - 1) b below (later ++ tail) (omega (arith, low)) levels.1 shape.3 boxes.1 in
      let none =
      if_false (eqb (at - 1) (level + 1)) (overlap_beside dims b below)
      (is_other (at - 1) (level + 1) (λ e. omega (arith, e, low, levels.0))) in
      let rest_is = after_children at b rest tail low levels.2 shape.4 boxes.2 in
      let sum =
      both test (overlap_with dims b (Some c)) (overlap_beside dims b rest) (overlap_after level b tail) in
      omega (arith, passed, here, joined, skipped, none, rest_is, sum)

  -- a node above the level ends the siblings
  stops_after : (at : ℕ) (b : Bounds) (row : Row) (tail : List (NodeOutline dims)) → level + 1 < at
      → overlap_after level b tail ≡ 0 → overlap_after level b (rows at row ++ tail) ≡ 0
  stops_after at b end tail high none = none
  stops_after at b (more (object kept id) rest) tail high none = stops_after at b rest tail high none
  stops_after at b (more (child c page below) rest) tail high none =
      ap (λ (t : Bool). cond t 0 (overlap_if level b (node page at below)
      + overlap_after level b ((rows (at - 1) below ++ rows at rest) ++ tail)))
      (is_above level (at - 1) (omega (arith, high)))

  -- the first node with its later siblings
  first_with_later : (at : ℕ) (c : Bounds) (page : ℕ) (below rest : Row) (tail : List (NodeOutline dims))
      → 0 < at → box_of_entries dims (row_items below) ≡ Some c → RowOnLevel (at - 1) below
      → RowOnLevel at rest → RowHasShape dims most below → RowHasShape dims most rest
      → RowHasBoxes dims below → RowHasBoxes dims rest
      → (level < at → (b : Bounds) → overlap_after level b tail ≡ 0)
      → overlap_with_later level (node page at below ∷ ((rows (at - 1) below ++ rows at rest) ++ tail))
      ≡ cond (eqb at (level + 1)) (overlap_beside dims c rest) 0
  first_with_later at c page below rest tail above box under_levels levels under_shape shape under_boxes
      boxes ends =
      let under = rows (at - 1) below in
      let later = rows at rest in
      let all = (under ++ later) ++ tail in
      ap₂ (λ (t : Bool) (o : Option Bounds). cond t (overlap_of_first level o all) 0)
      (same_test level at above) box
      ∙ if_true (eqb at (level + 1)) (overlap_after level c all) (overlap_beside dims c rest)
      (λ same.
      let e = same_of at (level + 1) same in
      let joined = ap (overlap_after {D = dims} level c) (append_assoc under later tail) in
      let skipped =
      after_children (at - 1) c below (later ++ tail) (omega (arith, e)) under_levels under_shape under_boxes in
      let none =
      if_false (eqb (at - 1) (level + 1)) (overlap_beside dims c below)
      (is_other (at - 1) (level + 1) (λ f. omega (arith, e, f))) in
      let rest_is = after_children at c rest tail (omega (arith, e)) levels shape boxes in
      let test = ap (λ (t : Bool). cond t (overlap_beside dims c rest) 0) same in
      let ended = ends (omega (arith, e)) c in
      omega (arith, joined, skipped, none, rest_is, test, ended))

  counted_at : (at : ℕ) (row : Row) (tail : List (NodeOutline dims)) → RowOnLevel at row
      → RowHasShape dims most row → RowHasBoxes dims row
      → (level < at → (b : Bounds) → overlap_after level b tail ≡ 0)
      → overlap_at level (rows at row ++ tail) ≡ sibling_overlap dims level at row + overlap_at level tail
  counted_at at end tail levels shape boxes ends = omega arith
  counted_at at (more (object kept id) rest) tail levels shape boxes ends =
      counted_at at rest tail levels.1 shape boxes.1 ends
  counted_at at (more (child c page below) rest) tail levels shape boxes ends =
      let under = rows (at - 1) below in
      let later = rows at rest in
      let box = least_here dims c below (omega (arith, shape.0)) boxes.1 shape.2 in
      let first =
      first_with_later at c page below rest tail levels.0 box levels.1 levels.2 shape.3 shape.4 boxes.1
      boxes.2 ends in
      let joined = ap (overlap_at {D = dims} level) (append_assoc under later tail) in
      let under_is =
      counted_at (at - 1) below (later ++ tail) levels.1 shape.3 boxes.1
      (λ high b. stops_after at b rest tail (omega (arith, high)) (ends (omega (arith, high)) b)) in
      let rest_is = counted_at at rest tail levels.2 shape.4 boxes.2 ends in
      omega (arith, first, joined, under_is, rest_is)

pub counts_siblings : CountsSiblings
counts_siblings dims most level t shape boxes =
    let below = outlines_below {D = dims} t.level t.row in
    let box = box_of_entries dims (row_items t.row) in
    let whole = ap (overlap_at {D = dims} level) (append-nil below) in
    let counted = counted_at dims most level t.level t.row [] shape.levels shape.below boxes (λ high b. refl) in
    let root : cond (eqb t.level level) (overlap_of_first level box below) 0 ≡ 0 =
    if_true (eqb t.level level) (overlap_of_first level box below) 0
    (λ same. alone box (same_of t.level level same))
    ∙ none_either (eqb t.level level) in
    omega (arith, whole, counted, root)
  where
    alone : (o : Option Bounds) → t.level ≡ level → overlap_of_first level o (outlines_below {D = dims} t.level t.row) ≡ 0
    alone None e = refl
    alone (Some b) e =
        let whole = ap (overlap_after {D = dims} level b) (append-nil (outlines_below {D = dims} t.level t.row)) in
        let skipped = after_children dims most level t.level b t.row [] (omega (arith, e)) shape.levels shape.below boxes in
        let none = if_false (eqb t.level (level + 1)) (overlap_beside dims b t.row)
        (is_other t.level (level + 1) (λ f. omega (arith, e, f))) in
        omega (arith, whole, skipped, none)
