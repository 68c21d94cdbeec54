-- The box that all boxes meet which a query looks into.
use Rattle.std.proofs.Common.{◌≡◌, ℕ, true, ℤ, List, arith}
use Rattle.std.proofs.lemmas.Int.{ints}
use Rattle.box_math.specs.Bounds.{Bounds, IsOrdered, holds_test, meets_test, within_test}
use Rattle.box_math.proofs.TestLaws.{holds_test_true, meets_test_true, within_test_true}

pub around_meets : (dims : ℕ) (inner b : Bounds) → IsOrdered dims inner.low inner.high
    → within_test dims inner b ≡ true → meets_test dims b inner ≡ true
around_meets dims inner b ordered passes =
    let w = (within_test_true dims inner b).0 passes in
    (meets_test_true dims b inner).1
    (λ k lt. let u = w k lt in let o = ordered k lt in (omega (arith, ints), omega (arith, ints)))

pub point_meets : (dims : ℕ) (p : List ℤ) (b : Bounds) → holds_test dims b p ≡ true
    → meets_test dims b (record { low = p; high = p }) ≡ true
point_meets dims p b passes =
    let h = (holds_test_true dims b p).0 passes in
    (meets_test_true dims b (record { low = p; high = p })).1 (λ k lt. h k lt)

pub point_ordered : (dims : ℕ) (p : List ℤ) → IsOrdered dims p p
point_ordered dims p = λ axis lt. omega (arith, ints)
