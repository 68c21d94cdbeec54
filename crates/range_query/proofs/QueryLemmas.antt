-- What a query admits: each box that encloses a sought one, or an admitted one.
use Rattle.std.proofs.Common.{◌≡◌, ℕ, Bool, true, ℤ, List, arith}
use Rattle.std.proofs.lemmas.Int.{ints}
use Rattle.box_math.specs.Bounds.{Bounds, HoldsPoint, IsOrdered, Meets, Within}
use Rattle.box_math.proofs.BoxLaws.{Meets-grows, Within-trans}
use Rattle.box_math.proofs.TestLaws.{holds_test_true, meets_test_true, within_test_true}
use Rattle.tree_node.specs.Searches.{Guards}
use Rattle.box_math.specs.Queries.{admits, seeks}
use Rattle.box_math.specs.declared.query.Query.{Query}
use Rattle.box_math.specs.declared.query.Query.TheVariants.{Window, Inside, Around, Point}

-- a box that passes the second test is within none that fails the first
abbrev pub Finds : ℕ → (Bounds → Bool) → (Bounds → Bool) → Type 0
Finds dims guard test = (a b : Bounds) → IsOrdered dims a.low a.high → Within dims a b → test a ≡ true
    → guard b ≡ true

within_meets : (dims : ℕ) (a b : Bounds) → IsOrdered dims a.low a.high → Within dims a b → Meets dims a b
within_meets dims a b ordered w = λ k lt. let u = w k lt in let o = ordered k lt in
    (omega (arith, ints), omega (arith, ints))

grown_holds : (dims : ℕ) (a b : Bounds) (p : List ℤ) → Within dims a b → HoldsPoint dims a p
    → HoldsPoint dims b p
grown_holds dims a b p w holds = λ axis lt. let u = w axis lt in let h = holds axis lt in
    (omega (arith, ints), omega (arith, ints))

-- a box that encloses a sought one is admitted
pub sought_admits : {D : ℕ} (q : Query D) → Finds D (admits q) (seeks q)
sought_admits {D} (Window window) a b ordered w sought =
    (meets_test_true D b window).1 (Meets-grows D a window b w ((meets_test_true D a window).0 sought))
sought_admits {D} (Inside window) a b ordered w sought =
    (meets_test_true D b window).1
    (Meets-grows D a window b w (within_meets D a window ordered ((within_test_true D a window).0 sought)))
sought_admits {D} (Around inner) a b ordered w sought =
    (within_test_true D inner b).1 (Within-trans D inner a b ((within_test_true D inner a).0 sought) w)
sought_admits {D} (Point point) a b ordered w sought =
    (holds_test_true D b point).1 (grown_holds D a b point w ((holds_test_true D a point).0 sought))

-- and one that encloses an admitted one
pub admitted_guards : {D : ℕ} (q : Query D) → Guards D (admits q) (admits q)
admitted_guards {D} (Window window) a b box w passes =
    (meets_test_true D b window).1 (Meets-grows D a window b w ((meets_test_true D a window).0 passes))
admitted_guards {D} (Inside window) a b box w passes =
    (meets_test_true D b window).1 (Meets-grows D a window b w ((meets_test_true D a window).0 passes))
admitted_guards {D} (Around inner) a b box w passes =
    (within_test_true D inner b).1 (Within-trans D inner a b ((within_test_true D inner a).0 passes) w)
admitted_guards {D} (Point point) a b box w passes =
    (holds_test_true D b point).1 (grown_holds D a b point w ((holds_test_true D a point).0 passes))
