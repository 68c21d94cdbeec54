-- The distance of two boxes: that of their nearest points, and 0 where they meet.
use Rattle.std.proofs.Common.{◌≡◌, ◌↔◌, ℕ, zero, suc, ◌+◌, ◌*◌, ◌<◌, ◌≤◌, inl, inr, ℤ, pos, negsuc, ◌+ℤ◌}
use Rattle.std.proofs.Common.{◌-ℤ◌, ◌≤ℤ◌, unsigned_abs, true, List, ap, arith, refl}
use Rattle.std.specs.Int.{int_min, int_max}
use Rattle.std.proofs.lemmas.Bool.{cases_eq, cases_lt}
use Rattle.std.proofs.lemmas.Bool.Decides.{nat_tests}
use Rattle.std.proofs.lemmas.Int.{ints, clamps}
use Rattle.std.proofs.lemmas.Nat.{mul-le}
use Rattle.box_math.specs.Bounds.{Bounds, on_axis, each_axis, IsPoint, IsBox, HoldsPoint, Meets, Within}
use Rattle.box_math.specs.Bounds.{widened_of}
use Rattle.box_math.specs.Measures.{sum_over, square_of, dist2, nearest_on, gap_on, box_dist2_of, near_test}
use Rattle.box_math.proofs.BoxLaws.{on_axis-each_axis, length-each_axis}
use Rattle.box_math.proofs.Fits.{square_le}
use Rattle.box_math.proofs.Growth.{sum_over-le, sum_over-same}

-- ---- sums of squares

term_le : (dims : ℕ) (f : ℕ → ℕ) (axis : ℕ) → axis < dims → f axis ≤ sum_over dims f
term_le zero f axis h = absurd (omega arith)
term_le (suc n) f axis h = elim (cases_eq axis n) [
  | inl e ↦ rw e (omega arith)
  | inr o ↦ omega (arith, term_le n f axis (omega arith))
]

none_zero : (dims : ℕ) (f : ℕ → ℕ) → ((axis : ℕ) → axis < dims → f axis ≡ 0) → sum_over dims f ≡ 0
none_zero zero f h = refl
none_zero (suc n) f h = omega (arith, none_zero n f (λ k l. h k (omega arith)), h n (omega arith))

-- a number is below another where its square is
root_below : (n m : ℕ) → n * n < m * m → n < m
root_below n m h = elim (cases_lt n m) [ inl l ↦ l | inr g ↦ absurd (omega (arith, h, square_le m n g)) ]

-- ---- gaps

gap_least : (al ah bl bh p q : ℤ) → al ≤ℤ p → p ≤ℤ ah → bl ≤ℤ q → q ≤ℤ bh
    → unsigned_abs (int_max (pos 0) (int_max (bl -ℤ ah) (al -ℤ bh))) ≤ unsigned_abs (p -ℤ q)
gap_least al ah bl bh p q h k l m = omega (arith, ints, clamps)

gap_meets : (al ah bl bh : ℤ) → unsigned_abs (int_max (pos 0) (int_max (bl -ℤ ah) (al -ℤ bh))) ≡ 0
    → (al ≤ℤ bh) × (bl ≤ℤ ah)
gap_meets al ah bl bh e = (omega (arith, ints, clamps), omega (arith, ints, clamps))

meets_gap : (al ah bl bh : ℤ) → al ≤ℤ bh → bl ≤ℤ ah
    → unsigned_abs (int_max (pos 0) (int_max (bl -ℤ ah) (al -ℤ bh))) ≡ 0
meets_gap al ah bl bh h k = omega (arith, ints, clamps)

gap_turned : (al ah bl bh : ℤ)
    → int_max (pos 0) (int_max (bl -ℤ ah) (al -ℤ bh)) ≡ int_max (pos 0) (int_max (al -ℤ bh) (bl -ℤ ah))
gap_turned al ah bl bh = omega (arith, ints, clamps)

gap_falls : (al ah bl bh cl ch : ℤ) → cl ≤ℤ al → ah ≤ℤ ch
    → unsigned_abs (int_max (pos 0) (int_max (bl -ℤ ch) (cl -ℤ bh))) ≤ unsigned_abs
    (int_max (pos 0) (int_max (bl -ℤ ah) (al -ℤ bh)))
gap_falls al ah bl bh cl ch h k = omega (arith, ints, clamps)

-- ---- the distance

pub box_dist2_of-zero : (dims : ℕ) (a b : Bounds) → (box_dist2_of dims a b ≡ 0 ↔ Meets dims a b)
box_dist2_of-zero dims a b = (
  λ e axis h.
      let term = term_le dims (λ k. square_of (gap_on a b k)) axis h in
      gap_meets _ _ _ _ (omega (arith, root_below (gap_on a b axis) 1 (omega (arith, e, term)))),
  λ m. none_zero dims _ (λ axis h. ap square_of (meets_gap _ _ _ _ (m axis h).0 (m axis h).1)),
)

pub box_dist2_of-commutes : (dims : ℕ) (a b : Bounds) → box_dist2_of dims a b ≡ box_dist2_of dims b a
box_dist2_of-commutes dims a b =
    sum_over-same dims _ _
    (λ axis h. ap (λ (z : ℤ). square_of (unsigned_abs z))
    (gap_turned (on_axis a.low axis) (on_axis a.high axis) (on_axis b.low axis) (on_axis b.high axis)))

pub box_dist2_of-least : (dims : ℕ) (a b : Bounds) (p q : List ℤ) → HoldsPoint dims a p → HoldsPoint dims b q
    → box_dist2_of dims a b ≤ dist2 dims p q
box_dist2_of-least dims a b p q inside other =
    sum_over-le dims _ _
    (λ axis h.
    let u = inside axis h in
    let v = other axis h in
    let e = gap_least (on_axis a.low axis) (on_axis a.high axis) (on_axis b.low axis) (on_axis b.high axis)
    (on_axis p axis) (on_axis q axis) u.0 u.1 v.0 v.1 in
    mul-le _ _ _ _ e e)

gap_reached : (al ah bl bh : ℤ) → al ≤ℤ ah → bl ≤ℤ bh
    → unsigned_abs
    (int_max al (int_min bl ah) -ℤ int_max bl (int_min (int_max al (int_min bl ah)) bh)) ≡ unsigned_abs
    (int_max (pos 0) (int_max (bl -ℤ ah) (al -ℤ bh)))
gap_reached al ah bl bh h k = omega (arith, ints, clamps)

between : (low high p : ℤ) → low ≤ℤ high
    → (low ≤ℤ int_max low (int_min p high)) × (int_max low (int_min p high) ≤ℤ high)
between low high p h = (omega (arith, ints, clamps), omega (arith, ints, clamps))

pub box_dist2_of-reached : (dims : ℕ) (a b : Bounds) → IsBox dims a → IsBox dims b
    → ((p : List ℤ) × (q : List ℤ) × IsPoint dims p × IsPoint dims q × HoldsPoint dims a p
    × HoldsPoint dims b q × (dist2 dims p q ≡ box_dist2_of dims a b))
box_dist2_of-reached dims a b box other =
    let p : List ℤ = each_axis dims (nearest_on a b.low) in (
      p,
      each_axis dims (nearest_on b p),
      length-each_axis dims _,
      length-each_axis dims _,
      λ axis h. simp on_axis-each_axis (between _ _ _ (box.spans axis h).ordered),
      λ axis h. simp on_axis-each_axis (between _ _ _ (other.spans axis h).ordered),
      sum_over-same dims _ _
          (λ axis h. simp on_axis-each_axis
          (ap square_of
          (gap_reached (on_axis a.low axis) (on_axis a.high axis) (on_axis b.low axis) (on_axis b.high axis)
          (box.spans axis h).ordered (other.spans axis h).ordered))),
    )

pub box_dist2_of-falls : (dims : ℕ) (a b c : Bounds) → Within dims a c
    → box_dist2_of dims c b ≤ box_dist2_of dims a b
box_dist2_of-falls dims a b c w =
    sum_over-le dims _ _
    (λ axis h.
    let u = w axis h in
    let e = gap_falls (on_axis a.low axis) (on_axis a.high axis) (on_axis b.low axis) (on_axis b.high axis)
    (on_axis c.low axis) (on_axis c.high axis) u.0 u.1 in
    mul-le _ _ _ _ e e)

pub near_test_true : (dims within : ℕ) (a b : Bounds)
    → (near_test dims within a b ≡ true) ↔ (box_dist2_of dims a b ≤ within)
unfolding near_test
near_test_true dims within a b = (λ e. grind (arith, nat_tests), λ h. grind (arith, nat_tests))

-- ---- boxes widened

widened_meets : (by : ℕ) (al ah bl bh : ℤ)
    → unsigned_abs (int_max (pos 0) (int_max (bl -ℤ ah) (al -ℤ bh))) ≤ by → negsuc 2147483647 ≤ℤ bh
    → bl ≤ℤ pos 2147483647
    → (int_max (negsuc 2147483647) (al -ℤ pos by) ≤ℤ bh) × (bl ≤ℤ int_min (pos 2147483647) (ah +ℤ pos by))
widened_meets by al ah bl bh gap low high = (omega (arith, ints, clamps), omega (arith, ints, clamps))

pub near-widened : (dims by : ℕ) (a b : Bounds) → IsBox dims b → box_dist2_of dims a b < (by + 1) * (by + 1)
    → Meets dims (widened_of dims by a) b
near-widened dims by a b box near =
    λ axis h.
    let span = box.spans axis h in
    let term = term_le dims (λ k. square_of (gap_on a b k)) axis h in
    let gap : gap_on a b axis < by + 1 = root_below (gap_on a b axis) (by + 1) (omega (arith, near, term)) in
    simp on_axis-each_axis
    (widened_meets by (on_axis a.low axis) (on_axis a.high axis) (on_axis b.low axis)
    (on_axis b.high axis) (omega (arith, gap)) (omega (arith, ints, span.high_fits.sfits))
    (omega (arith, ints, span.low_fits.sfits)))
