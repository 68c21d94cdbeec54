-- The tests that compute, each true exactly where its relation holds.
use Rattle.std.proofs.Common.{◌≡◌, ℕ, zero, suc, ◌<◌, ◌↔◌, ℤ, ◌≤ℤ◌, List, refl, arith, inl, inr, int_le, Bool}
use Rattle.std.proofs.Common.{true, false, ◌&&◌}
use Rattle.std.proofs.lemmas.Bool.{cases_eq, false≢true}
use Rattle.std.proofs.lemmas.Int.{ints}
use Rattle.box_math.specs.Bounds.{Bounds, all_over, IsOrdered, HoldsPoint, Meets, Within, ordered_test}
use Rattle.box_math.specs.Bounds.{holds_test, meets_test, within_test}

and_true : (a b : Bool) → (a && b ≡ true) ↔ ((a ≡ true) × (b ≡ true))
and_true true true = (λ _. (refl, refl), λ _. refl)
and_true true false = (λ e. absurd (false≢true e), λ u. u.1)
and_true false b = (λ e. absurd (false≢true e), λ u. u.0)

le_test : (a b : ℤ) → (int_le a b ≡ true) ↔ (a ≤ℤ b)
le_test a b = (λ e. grind (arith, ints), λ h. grind (arith, ints))

le_tests : (a b c d : ℤ) → (int_le a b && int_le c d ≡ true) ↔ ((a ≤ℤ b) × (c ≤ℤ d))
le_tests a b c d = (
  λ e. let u = (and_true _ _).0 e in ((le_test a b).0 u.0, (le_test c d).0 u.1),
  λ u. (and_true _ _).1 ((le_test a b).1 u.0, (le_test c d).1 u.1),
)

-- a test that computes a fact on each axis computes the fact on all of them
all_over_true : (n : ℕ) (t : ℕ → Bool) (P : ℕ → Type 0) → ((axis : ℕ) → (t axis ≡ true) ↔ P axis)
    → (all_over n t ≡ true) ↔ ((axis : ℕ) → axis < n → P axis)
all_over_true zero t P each = (λ _ axis h. absurd (omega arith), λ _. refl)
all_over_true (suc n) t P each =
    let both = and_true (all_over n t) (t n) in
    let front = all_over_true n t P each in (
      λ e axis h. elim (cases_eq axis n) [
        | inl s ↦ rw s ((each n).0 (both.0 e).1)
        | inr o ↦ front.0 (both.0 e).0 axis (omega arith)
      ],
      λ all. both.1 (front.1 (λ axis h. all axis (omega arith)), (each n).1 (all n (omega arith))),
    )

pub ordered_test_true : (dims : ℕ) (low high : List ℤ)
    → (ordered_test dims low high ≡ true) ↔ IsOrdered dims low high
unfolding ordered_test
ordered_test_true dims low high = all_over_true dims _ _ (λ axis. le_test _ _)

pub holds_test_true : (dims : ℕ) (b : Bounds) (p : List ℤ)
    → (holds_test dims b p ≡ true) ↔ HoldsPoint dims b p
unfolding holds_test
holds_test_true dims b p = all_over_true dims _ _ (λ axis. le_tests _ _ _ _)

pub meets_test_true : (dims : ℕ) (a b : Bounds) → (meets_test dims a b ≡ true) ↔ Meets dims a b
unfolding meets_test
meets_test_true dims a b = all_over_true dims _ _ (λ axis. le_tests _ _ _ _)

pub within_test_true : (dims : ℕ) (a b : Bounds) → (within_test dims a b ≡ true) ↔ Within dims a b
unfolding within_test
within_test_true dims a b = all_over_true dims _ _ (λ axis. le_tests _ _ _ _)

-- two tests of one fact agree
pub same_test : (r s : Bool) (P : Type 0) → ((r ≡ true) ↔ P) → ((s ≡ true) ↔ P) → r ≡ s
same_test true true P p q = refl
same_test false false P p q = refl
same_test true false P p q = absurd (false≢true (q.1 (p.0 refl)))
same_test false true P p q = absurd (false≢true (p.1 (q.0 refl)))

-- what holds nowhere is not tested true
pub test_fails : (s : Bool) (P : Type 0) → ((s ≡ true) ↔ P) → (P → ⊥) → s ≡ false
test_fails false P q n = refl
test_fails true P q n = absurd (n (q.0 refl))
