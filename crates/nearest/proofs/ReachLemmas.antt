-- The box round a point that reaches so far on each axis, and what meets it.
use Rattle.std.proofs.Common.{◌≡◌, ◌∙◌, ◌⊎◌, ℕ, zero, suc, ◌+◌, ◌-◌, ◌*◌, ◌^◌, ◌<◌, ◌≤◌, Bool, true, false, ℤ}
use Rattle.std.proofs.Common.{pos, negsuc, ◌+ℤ◌, ◌-ℤ◌, ◌≤ℤ◌, List, FitsSigned, w32, unsigned_abs, inl, inr}
use Rattle.std.proofs.Common.{sym, subst, ⊎_elim, arith}
use Rattle.std.specs.Int.{int_min, int_max, saturate_signed}
use Rattle.std.proofs.lemmas.Bool.{cases_lt, false≢true}
use Rattle.std.proofs.lemmas.Int.{ints, clamps}
use Rattle.std.proofs.lemmas.Nat.{mul-le}
use Rattle.box_math.specs.Bounds.{Bounds, IsBox, IsSpan, meets_test, on_axis}
use Rattle.box_math.specs.Measures.{nearest_on, point_dist2_of, square_of, sum_over}
use Rattle.box_math.proofs.TestLaws.{meets_test_true}

-- ---- on one axis

saturated_over : (l z : ℤ) → l ≤ℤ z → FitsSigned w32 l → l ≤ℤ saturate_signed w32 z
saturated_over l (pos n) up fits = omega (arith, ints, up, fits)
saturated_over l (negsuc n) up fits = omega (arith, ints, up, fits)

saturated_under : (z h : ℤ) → z ≤ℤ h → FitsSigned w32 h → saturate_signed w32 z ≤ℤ h
saturated_under (pos n) h up fits = omega (arith, ints, up, fits)
saturated_under (negsuc n) h up fits = omega (arith, ints, up, fits)

-- a coordinate, and one so far on
abbrev pub below_by : List ℤ → ℕ → ℕ → ℤ
below_by point side axis = saturate_signed w32 (on_axis point axis -ℤ pos side)

abbrev pub above_by : List ℤ → ℕ → ℕ → ℤ
above_by point side axis = saturate_signed w32 (on_axis point axis +ℤ pos side)

pub below_above : (p : ℤ) (side : ℕ) → FitsSigned w32 p
    → saturate_signed w32 (p -ℤ pos side) ≤ℤ saturate_signed w32 (p +ℤ pos side)
below_above p side fits =
    let low = saturated_under (p -ℤ pos side) p (omega (arith, ints)) fits in
    let high = saturated_over p (p +ℤ pos side) (omega (arith, ints)) fits in
    omega (arith, ints, low, high)

meets_on : (low high p : ℤ) (side : ℕ) → IsSpan low high → FitsSigned w32 p
    → (unsigned_abs (p -ℤ int_max low (int_min p high)) ≤ side) ⊎ (side ≡ 2 ^ 32 - 1)
    → (low ≤ℤ saturate_signed w32 (p +ℤ pos side)) × (saturate_signed w32 (p -ℤ pos side) ≤ℤ high)
meets_on low high p side span fits (inl near) = (
  saturated_over low (p +ℤ pos side) (let o = span.ordered in omega (arith, ints, clamps)) span.low_fits,
  saturated_under (p -ℤ pos side) high (let o = span.ordered in omega (arith, ints, clamps)) span.high_fits,
)
meets_on low high p side span fits (inr most) = (
  saturated_over low (p +ℤ pos side) (let l = span.low_fits in omega (arith, ints)) span.low_fits,
  saturated_under (p -ℤ pos side) high (let h = span.high_fits in omega (arith, ints)) span.high_fits,
)

-- ---- on all axes

sum_over-term : (dims : ℕ) (f : ℕ → ℕ) (axis : ℕ) → axis < dims → f axis ≤ sum_over dims f
sum_over-term zero f axis lt = absurd (omega (arith, lt))
sum_over-term (suc n) f axis lt = ⊎_elim
    (λ (less : axis < n). omega (arith, sum_over-term n f axis less))
    (λ (last : n ≤ axis). let e : n ≡ axis = omega (arith, lt, last) in
    subst (λ (k : ℕ). f k ≤ sum_over n f + f n) e (omega arith))
    (cases_lt axis n)

root_le : (gap side : ℕ) → gap * gap < (side + 1) * (side + 1) → gap ≤ side
root_le gap side less = ⊎_elim
    (λ (over : side < gap). let most =
    mul-le (side + 1) (side + 1) gap gap (omega (arith, over)) (omega (arith, over)) in
    absurd (omega (arith, less, most)))
    (λ (within : gap ≤ side). within)
    (cases_lt side gap)

-- a box that is near enough meets it
pub near_meets : (dims : ℕ) (point : List ℤ) (side : ℕ) (window b : Bounds)
    → ((k : ℕ) → k < dims → FitsSigned w32 (on_axis point k))
    → ((k : ℕ) → k < dims → on_axis window.low k ≡ below_by point side k)
    → ((k : ℕ) → k < dims → on_axis window.high k ≡ above_by point side k)
    → IsBox dims b → (point_dist2_of dims b point < (side + 1) * (side + 1)) ⊎ (side ≡ 2 ^ 32 - 1)
    → meets_test dims b window ≡ true
near_meets dims point side window b fits lows highs box near = (meets_test_true dims b window).1 (λ k lt.
    let gap = unsigned_abs (on_axis point k -ℤ nearest_on b point k) in
    let within : (gap ≤ side) ⊎ (side ≡ 2 ^ 32 - 1) = ⊎_elim
    (λ (less : point_dist2_of dims b point < (side + 1) * (side + 1)).
    let term =
    sum_over-term dims (λ axis. square_of (unsigned_abs (on_axis point axis -ℤ nearest_on b point axis)))
    k lt in
    inl (root_le gap side (omega (arith, less, term))))
    (λ (most : side ≡ 2 ^ 32 - 1). inr most) near in
    let both =
    meets_on (on_axis b.low k) (on_axis b.high k) (on_axis point k) side (box.spans k lt) (fits k lt)
    within in (
      subst (λ (z : ℤ). on_axis b.low k ≤ℤ z) (sym (highs k lt)) both.0,
      subst (λ (z : ℤ). z ≤ℤ on_axis b.high k) (sym (lows k lt)) both.1,
    ))

-- so what misses it is farther
pub missed_is_farther : (near distance side : ℕ) (meets : Bool)
    → ((near < (side + 1) * (side + 1)) ⊎ (side ≡ 2 ^ 32 - 1) → meets ≡ true)
    → (distance < (side + 1) * (side + 1)) ⊎ (side ≡ 2 ^ 32 - 1) → meets ≡ false → distance < near
missed_is_farther near distance side meets reached within missed = ⊎_elim
    (λ (less : distance < near). less)
    (λ (le : near ≤ distance).
    absurd (false≢true
    (sym missed
    ∙ reached
    (⊎_elim (λ (less : distance < (side + 1) * (side + 1)). inl (omega (arith, less, le)))
    (λ (most : side ≡ 2 ^ 32 - 1). inr most) within))))
    (cases_lt distance near)
