-- A removal keeps the sums over the objects, but for the one that is removed.
use Rattle.std.proofs.Common.{◌≡◌, ◌∙◌, ℕ, zero, suc, ◌+◌, ◌-◌, ◌<◌, ◌≤◌, Bool, true, false, Some, List, []}
use Rattle.std.proofs.Common.{◌∷◌, take, drop, refl, sym, ap, arith}
use Rattle.std.specs.Prelude.{nat_lt}
use Rattle.std.proofs.lemmas.Bool.Decides.{nat_tests}
use Rattle.box_math.specs.Bounds.{Bounds}
use Rattle.box_math.specs.Objects.{Object}
use Rattle.tree_node.specs.Boxes.{least_box}
use Rattle.tree_node.specs.Positions.{total}
use Rattle.tree_node.specs.Rows.{Waiter, branches_of, objects_on, occurs_waiting, row_of}
use Rattle.tree_node.specs.Shape.{least_entries}
use Rattle.tree_node.specs.Trees.{Row, end, more, Branch, object, child, Tree, objects_in, row_items}
use Rattle.tree_node.specs.Trees.{row_length}
use Rattle.tree_node.proofs.ObjectLemmas.{equal_sums_permute}
use Rattle.tree_node.proofs.PositionLemmas.{total-append}
use Rattle.tree_node.proofs.RowLemmas.{row_of-branches_of}
use Rattle.reinsert.specs.Children.{Child, child_at, with_child}
use Rattle.reinsert.specs.Placing.{waiting_on}
use Rattle.reinsert.proofs.KeptLemmas.{weight-insertion}
use Rattle.condense.specs.Removal.{AreInserted, Condensed, GivesWay, IsRemoval, TakesOut, condensed, without}
use Rattle.condense.specs.Removed.{RemovalKeepsObjects}
use Rattle.condense.proofs.CutLemmas.{cut, cut-is}
use Rattle.condense.proofs.TakeLemmas.{leaves_is, stays_is}

pub by_bool : {X : Type 0} (b : Bool) → (b ≡ true → X) → (b ≡ false → X) → X
by_bool true f g = f refl
by_bool false f g = g refl

module _ (w : ℕ × Object → ℕ) where
  abbrev weight : Row → ℕ
  weight row = total w (objects_in row)

  abbrev weight_on : Branch → ℕ
  weight_on branch = total w (objects_on branch)

  abbrev weight_kept : List Waiter → ℕ
  weight_kept ws = total (λ (x : Waiter). weight_on x.branch) ws

  weight-row_of : (xs : List Branch) → weight (row_of xs) ≡ total weight_on xs
  weight-row_of [] = refl
  weight-row_of (object kept id ∷ xs) = omega (arith, weight-row_of xs)
  weight-row_of (child bounds page below ∷ xs) =
      omega (arith, weight-row_of xs, total-append w (objects_in below) (objects_in (row_of xs)))

  weight-branches_of : (row : Row) → total weight_on (branches_of row) ≡ weight row
  weight-branches_of row = sym (weight-row_of (branches_of row)) ∙ ap weight (row_of-branches_of row)

  weight-waiting_on : (level : ℕ) (xs : List Branch) → weight_kept (waiting_on level xs) ≡ total weight_on xs
  weight-waiting_on level [] = refl
  weight-waiting_on level (x ∷ xs) = omega (arith, weight-waiting_on level xs)

  weight-with_child : (row : Row) (at : ℕ) (c : Child) (b : Bounds) (new : Row) → child_at row at ≡ Some c
      → weight (with_child row at b new) + weight c.row ≡ weight row + weight new
  weight-with_child end at c b new is = absurd (cc)
  weight-with_child (more (object kept id) rest) zero c b new is = absurd (cc)
  weight-with_child (more (object kept id) rest) (suc at) c b new is =
      omega (arith, weight-with_child rest at c b new is)
  weight-with_child (more (child bounds page below) rest) zero c b new is =
      let same : record { page = page; row = below } ≡ c = cc in
      omega (
        arith,
        ap (λ (x : Child). weight x.row) same,
        total-append w (objects_in new) (objects_in rest),
        total-append w (objects_in below) (objects_in rest),
      )
  weight-with_child (more (child bounds page below) rest) (suc at) c b new is =
      omega (
        arith,
        weight-with_child rest at c b new is,
        total-append w (objects_in below) (objects_in rest),
        total-append w (objects_in below) (objects_in (with_child rest at b new)),
      )

  -- without a child
  weight-cut : (row : Row) (at : ℕ) (c : Child) → child_at row at ≡ Some c
      → total weight_on (cut (branches_of row) at) + weight c.row ≡ weight row
  weight-cut end at c is = absurd (cc)
  weight-cut (more (object kept id) rest) zero c is = absurd (cc)
  weight-cut (more (object kept id) rest) (suc at) c is = omega (arith, weight-cut rest at c is)
  weight-cut (more (child bounds page below) rest) zero c is =
      let same : record { page = page; row = below } ≡ c = cc in
      omega (
        arith,
        ap (λ (x : Child). weight x.row) same,
        weight-branches_of rest,
        total-append w (objects_in below) (objects_in rest),
      )
  weight-cut (more (child bounds page below) rest) (suc at) c is =
      omega (arith, weight-cut rest at c is, total-append w (objects_in below) (objects_in rest))

  -- without an object
  weight-entry : (row : Row) (at : ℕ) (b : Object) (id : ℕ)
      → take 1 (drop at (branches_of row)) ≡ object b id ∷ []
      → total weight_on (cut (branches_of row) at) + w (id, b) ≡ weight row
  weight-entry end zero b id is = absurd (cc)
  weight-entry end (suc at) b id is = absurd (cc)
  weight-entry (more x rest) zero b id is =
      let this : x ≡ object b id = cc in
      omega (arith, weight-branches_of rest, ap weight_on this, weight-first x rest)
    where
      weight-first : (x : Branch) (rest : Row) → weight (more x rest) ≡ weight_on x + weight rest
      weight-first (object kept id) rest = omega arith
      weight-first (child bounds page below) rest = total-append w (objects_in below) (objects_in rest)
  weight-entry (more (object kept i) rest) (suc at) b id is = omega (arith, weight-entry rest at b id is)
  weight-entry (more (child bounds page below) rest) (suc at) b id is =
      omega (arith, weight-entry rest at b id is, total-append w (objects_in below) (objects_in rest))

  weight-condensed : (dims most level : ℕ) (row : Row) (at : ℕ) (c : Child) (below o : Condensed)
      → child_at row at ≡ Some c → o ≡ condensed dims most level row at below
      → weight o.row + weight_kept o.kept + weight c.row ≡ weight row + weight below.row + weight_kept
      below.kept
  weight-condensed dims most level row at c below o there is =
      by_bool (nat_lt (row_length below.row) (least_entries most))
      (λ yes.
      let few : row_length below.row < least_entries most = grind (arith, nat_tests) in
      let e = is ∙ leaves_is dims most level row at below few in
      let ks = waiting_on (level - 1) (branches_of below.row) in
      omega (
        arith,
        ap (λ (x : Condensed). weight x.row + weight_kept x.kept) e,
        weight-row_of (without (branches_of row) at),
        ap (total weight_on) (cut-is (branches_of row) at),
        weight-cut row at c there,
        total-append (λ (x : Waiter). weight_on x.branch) ks below.kept,
        weight-waiting_on (level - 1) (branches_of below.row),
        weight-branches_of below.row,
      ))
      (λ no.
      let some : least_entries most ≤ row_length below.row = grind (arith, nat_tests) in
      let e = is ∙ stays_is dims most level row at below some in
      omega (
        arith,
        ap (λ (x : Condensed). weight x.row + weight_kept x.kept) e,
        weight-with_child row at c (least_box dims (row_items below.row)) below.row there,
      ))

  weight-takes : (dims most level id : ℕ) (removed : Object) (row : Row) (o : Condensed)
      → TakesOut dims most level id removed row o
      → weight o.row + weight_kept o.kept + w (id, removed) ≡ weight row
  weight-takes dims most zero id removed row o h =
      omega (
        arith,
        ap (λ (x : Condensed). weight x.row + weight_kept x.kept) h.2,
        weight-row_of (without (branches_of row) h.0),
        ap (total weight_on) (cut-is (branches_of row) h.0),
        weight-entry row h.0 removed id h.1,
      )
  weight-takes dims most (suc level) id removed row o h =
      omega (
        arith,
        weight-condensed dims most (suc level) row h.0 h.1 h.3 o h.2 h.5,
        weight-takes dims most level id removed h.1.row h.3 h.4,
      )

  weight-inserted : (dims most : ℕ) (elsewhere : ℕ → ℕ) (ws : List Waiter) (old new : Tree)
      → AreInserted dims most elsewhere ws old new → weight new.row ≡ weight old.row + weight_kept ws
  weight-inserted dims most elsewhere [] old new h = omega (arith, ap (λ (t : Tree). weight t.row) h)
  weight-inserted dims most elsewhere (x ∷ ws) old new h =
      omega (
        arith,
        weight-insertion w dims most (λ n. occurs_waiting n ws + elsewhere n) x.branch x.level old h.0 h.1,
        total-append w (objects_on x.branch) (objects_in old.row),
        weight-inserted dims most elsewhere ws h.0 new h.2,
      )

  weight-only : (row : Row) (c : Child) → row_length row ≡ 1 → child_at row 0 ≡ Some c
      → weight row ≡ weight c.row
  weight-only end c one is = absurd (cc)
  weight-only (more (object b i) rest) c one is = absurd (cc)
  weight-only (more (child b page below) end) c one is =
      let this : record { page = page; row = below } ≡ c = cc in
      omega (arith, ap (λ (x : Child). weight x.row) this, total-append w (objects_in below) [])
  weight-only (more (child b page below) (more x rest)) c one is = absurd (omega (arith, one))

  weight-gives : (count : ℕ) (old new : Tree) → GivesWay count old new → weight new.row ≡ weight old.row
  weight-gives zero old new h = ap (λ (t : Tree). weight t.row) h.0
  weight-gives (suc count) old new h =
      weight-gives count (record { page = h.2.page; level = old.level - 1; row = h.2.row }) new h.4
      ∙ sym (weight-only old.row h.2 h.1 h.3)

  weight-removal : (dims most : ℕ) (elsewhere : ℕ → ℕ) (id : ℕ) (removed : Object) (old new : Tree)
      → IsRemoval dims most elsewhere id removed old new → w (id, removed) + weight new.row ≡ weight old.row
  weight-removal dims most elsewhere id removed old new h =
      omega (
        arith,
        weight-takes dims most old.level id removed old.row h.out h.takes_out,
        weight-inserted dims most elsewhere h.out.kept
            (record { page = old.page; level = old.level; row = h.out.row }) h.filled h.inserted,
        weight-gives h.count h.filled new h.lowered,
      )

pub removal_keeps_objects : RemovalKeepsObjects
removal_keeps_objects dims most elsewhere id removed old new h =
    equal_sums_permute ((id, removed) ∷ objects_in new.row) (objects_in old.row)
    (λ w. weight-removal w dims most elsewhere id removed old new h)
