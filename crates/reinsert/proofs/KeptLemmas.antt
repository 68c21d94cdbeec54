-- What a placing makes of a sum over all objects: it stays.
use Rattle.std.proofs.Common.{◌≡◌, ℕ, zero, suc, ◌+◌, ◌-◌, Bool, true, false, Option, Some, None, List, []}
use Rattle.std.proofs.Common.{◌∷◌, ◌++◌, length, map, refl, sym, ap, ◌∙◌, arith}
use Rattle.std.specs.Prelude.{MatchBool, nat_le, nat_lt, not, ◌&&◌}
use Rattle.std.proofs.lemmas.List.{length-map}
use Rattle.box_math.specs.Bounds.{Bounds}
use Rattle.box_math.specs.Objects.{Object}
use Rattle.tree_node.specs.Trees.{Row, end, more, Branch, object, child, Tree, objects_in, row_items}
use Rattle.tree_node.specs.Rows.{branches_of, row_of, item_in, Waiter, objects_on}
use Rattle.tree_node.specs.Positions.{total, pick, AreParts}
use Rattle.tree_node.specs.Boxes.{least_box}
use Rattle.tree_node.proofs.RowLemmas.{row_of-branches_of}
use Rattle.tree_node.proofs.PositionLemmas.{total-append, parts_have_all}
use Rattle.rstar_split.proofs.SplitParts.{split_parts}
use Rattle.reinsert.specs.Children.{Child, child_at, with_child}
use Rattle.reinsert.specs.Called.{is_called}
use Rattle.reinsert.specs.Far.{far_count, far_places, near_places}
use Rattle.reinsert.specs.Placing.{Outcome, State, Settles, Places, IsRootAfter, Placing, waiting_on}
use Rattle.reinsert.specs.Placing.{beside_branches, after_child}
use Rattle.reinsert.specs.Insertion.{Placings, IsInsertion}
use Rattle.reinsert.proofs.FarParts.{far_parts}

-- the three ways in which a node settles
pub by_way : {X Y Z R : Type 0} (b c : Bool) → MatchBool b X (MatchBool c Y Z) → (b ≡ true → X → R)
    → (b ≡ false → c ≡ true → Y → R) → (b ≡ false → Z → R) → R
by_way true c h f g k = f refl h
by_way false true h f g k = g refl refl h
by_way false false h f g k = k refl h

module _ (w : ℕ × Object → ℕ) where
  -- sums over all objects
  abbrev pub weight : Row → ℕ
  weight row = total w (objects_in row)

  abbrev pub weight_on : Branch → ℕ
  weight_on branch = total w (objects_on branch)

  abbrev pub weight_beside : Option Child → ℕ
  weight_beside None = 0
  weight_beside (Some c) = weight c.row

  abbrev pub weight_waiting : List Waiter → ℕ
  weight_waiting waiting = total (λ (x : Waiter). weight_on x.branch) waiting

  abbrev pub weight_after : Outcome → ℕ
  weight_after o = weight o.row + weight_beside o.beside + weight_waiting o.far

  weight-row_of : (xs : List Branch) → weight (row_of xs) ≡ total weight_on xs
  weight-row_of [] = refl
  weight-row_of (object kept id ∷ xs) = omega (arith, weight-row_of xs)
  weight-row_of (child bounds page below ∷ xs) =
      omega (arith, weight-row_of xs, total-append w (objects_in below) (objects_in (row_of xs)))

  weight-branches_of : (row : Row) → total weight_on (branches_of row) ≡ weight row
  weight-branches_of row = sym (weight-row_of (branches_of row)) ∙ ap weight (row_of-branches_of row)

  weight-waiting_on : (level : ℕ) (xs : List Branch)
      → weight_waiting (waiting_on level xs) ≡ total weight_on xs
  weight-waiting_on level [] = refl
  weight-waiting_on level (x ∷ xs) = omega (arith, weight-waiting_on level xs)

  weight-beside_branches : (dims : ℕ) (beside : Option Child)
      → total weight_on (beside_branches dims beside) ≡ weight_beside beside
  weight-beside_branches dims None = refl
  weight-beside_branches dims (Some c) = omega arith

  weight-with_child : (row : Row) (at : ℕ) (c : Child) (b : Bounds) (new : Row) → child_at row at ≡ Some c
      → weight (with_child row at b new) + weight c.row ≡ weight row + weight new
  weight-with_child end at c b new is = absurd (cc)
  weight-with_child (more (object kept id) rest) zero c b new is = absurd (cc)
  weight-with_child (more (object kept id) rest) (suc at) c b new is =
      omega (arith, weight-with_child rest at c b new is)
  weight-with_child (more (child bounds page below) rest) zero c b new is =
      let same : record { page = page; row = below } ≡ c = cc in
      omega (
        arith,
        ap (λ (x : Child). weight x.row) same,
        total-append w (objects_in new) (objects_in rest),
        total-append w (objects_in below) (objects_in rest),
      )
  weight-with_child (more (child bounds page below) rest) (suc at) c b new is =
      omega (
        arith,
        weight-with_child rest at c b new is,
        total-append w (objects_in below) (objects_in rest),
        total-append w (objects_in below) (objects_in (with_child rest at b new)),
      )

  -- a node settles
  weight-settles : (dims most top level : ℕ) (called : List Bool) (branches : List Branch) (o : Outcome)
      → Settles dims most top level called branches o → weight_after o ≡ total weight_on branches
  weight-settles dims most top level called branches o h =
      by_way (nat_le (length branches) most) (nat_lt level top && not (is_called called level)) h
      (λ few is. omega (arith, ap weight_after is, weight-row_of branches))
      (λ many free is.
      let items = map item_in branches in
      let near = near_places dims (far_count most) items in
      let far = far_places dims (far_count most) items in
      let parts : AreParts near far (length branches) =
      rw (length-map branches item_in) at (far_parts dims (far_count most) items) in
      omega (
        arith,
        ap weight_after is,
        weight-row_of (pick branches near),
        weight-waiting_on level (pick branches far),
        parts_have_all weight_on branches near far parts,
      ))
      (λ many split.
      let parts : AreParts split.first split.second (length branches) =
      rw (length-map branches item_in) at
      (split_parts dims most (map item_in branches) split.first split.second split.splits) in
      omega (
        arith,
        ap weight_after split.is,
        weight-row_of (pick branches split.first),
        weight-row_of (pick branches split.second),
        parts_have_all weight_on branches split.first split.second parts,
      ))

  weight-after_child : (dims : ℕ) (row : Row) (at : ℕ) (c : Child) (below : Outcome)
      → child_at row at ≡ Some c
      → total weight_on (after_child dims row at below) + weight c.row ≡ weight row + weight
      below.row + weight_beside below.beside
  weight-after_child dims row at c below is =
      let b = least_box dims (row_items below.row) in
      omega (
        arith,
        total-append weight_on (branches_of (with_child row at b below.row))
            (beside_branches dims below.beside),
        weight-branches_of (with_child row at b below.row),
        weight-beside_branches dims below.beside,
        weight-with_child row at c b below.row is,
      )

  -- and so do all nodes down to the entry's
  weight-places : (dims most top level down : ℕ) (called : List Bool) (branch : Branch) (row : Row)
      (o : Outcome) → Places dims most top level down called branch row o
      → weight_after o ≡ weight row + weight_on branch
  weight-places dims most top level zero called branch row o h =
      omega (
        arith,
        weight-settles dims most top level called (branches_of row ++ branch ∷ []) o h,
        total-append weight_on (branches_of row) (branch ∷ []),
        weight-branches_of row,
      )
  weight-places dims most top level (suc down) called branch row o h =
      omega (
        arith,
        ap weight_after h.is,
        total-append (λ (x : Waiter). weight_on x.branch) h.above.far h.below.far,
        weight-settles dims most top level h.below.called (after_child dims row h.at h.below) h.above
            h.settles,
        weight-after_child dims row h.at h.from h.below h.there,
        weight-places dims most top (level - 1) down called branch h.from.row h.below h.settled,
      )

  weight-root : (dims : ℕ) (old : Tree) (row : Row) (beside : Option Child) (new : Tree)
      → IsRootAfter dims old row beside new → weight new.row ≡ weight row + weight_beside beside
  weight-root dims old row None new is = omega (arith, ap (λ (t : Tree). weight t.row) is)
  weight-root dims old row (Some c) new is =
      omega (
        arith,
        ap (λ (t : Tree). weight t.row) is.1,
        total-append w (objects_in row) (objects_in c.row ++ []),
        total-append w (objects_in c.row) [],
      )

  weight-placing : (dims most : ℕ) (elsewhere : ℕ → ℕ) (old new : State)
      → Placing dims most elsewhere old new
      → weight new.tree.row + weight_waiting new.waiting ≡ weight old.tree.row + weight_waiting old.waiting
  weight-placing dims most elsewhere old new h =
      omega (
        arith,
        ap weight_waiting h.waits,
        ap weight_waiting h.waiting,
        total-append (λ (x : Waiter). weight_on x.branch) h.outcome.far h.rest,
        weight-root dims old.tree h.outcome.row h.outcome.beside new.tree h.root,
        weight-places dims most old.tree.level old.tree.level (old.tree.level - h.first.level) old.called
            h.first.branch old.tree.row h.outcome h.places,
      )

  weight-placings : (dims most : ℕ) (elsewhere : ℕ → ℕ) (count : ℕ) (old new : State)
      → Placings dims most elsewhere count old new
      → weight new.tree.row + weight_waiting new.waiting ≡ weight old.tree.row + weight_waiting old.waiting
  weight-placings dims most elsewhere zero old new h =
      ap (λ (s : State). weight s.tree.row + weight_waiting s.waiting) h
  weight-placings dims most elsewhere (suc count) old new h =
      weight-placings dims most elsewhere count h.0 new h.2 ∙ weight-placing dims most elsewhere old h.0 h.1

-- an insertion keeps each sum over the objects
pub weight-insertion : (w : ℕ × Object → ℕ) (dims most : ℕ) (elsewhere : ℕ → ℕ) (branch : Branch) (level : ℕ)
    (old new : Tree) → IsInsertion dims most elsewhere branch level old new
    → total w (objects_on branch ++ objects_in old.row) ≡ total w (objects_in new.row)
weight-insertion w dims most elsewhere branch level old new h =
    omega (
      arith,
      total-append w (objects_on branch) (objects_in old.row),
      weight-placings w dims most elsewhere h.count _ _ h.placed,
    )
