-- What growth does to volumes, overlaps and distances, and the bound of a volume.
use Rattle.std.proofs.Common.{◌≡◌, ◌↔◌, ℕ, zero, suc, ◌^◌, ◌<◌, ◌≤◌, ℤ, ◌-ℤ◌, ◌≤ℤ◌, unsigned_abs, List, refl}
use Rattle.std.proofs.Common.{arith, inl, inr, ◌⊎◌, sym, ◌∙◌, ap, Bool, true, false}
use Rattle.std.proofs.lemmas.Bool.{false≢true}
use Rattle.std.specs.Int.{int_min, int_max}
use Rattle.std.proofs.lemmas.Int.{ints, clamps}
use Rattle.std.proofs.lemmas.Nat.{mul-le}
use Rattle.std.proofs.Math.Nat.{le_refl, pow-zero, pow-suc}
use Rattle.box_math.specs.Bounds.{Bounds, on_axis, each_axis, IsDims, IsPoint, IsBox, Meets, meets_test}
use Rattle.box_math.specs.Bounds.{Within, HoldsPoint, join_of, meet_of}
use Rattle.box_math.specs.Measures.{sum_over, product_over, side_of, volume_of, overlap_of, dist2, nearest_on}
use Rattle.box_math.specs.Measures.{point_dist2_of}
use Rattle.box_math.proofs.Fits.{product_bound}
use Rattle.box_math.proofs.BoxLaws.{on_axis-each_axis, length-each_axis, join_of-encloses, IsBox-meet_of}
use Rattle.box_math.proofs.BoxLaws.{meet_of-within, meet_of-grows, meet_of-commutes, Meets-sym, Meets-grows}
use Rattle.box_math.proofs.TestLaws.{meets_test_true, test_fails}

-- ---- sums and products over the axes

pub sum_over-le : (dims : ℕ) (f g : ℕ → ℕ) → ((axis : ℕ) → axis < dims → f axis ≤ g axis)
    → sum_over dims f ≤ sum_over dims g
sum_over-le zero f g h = omega arith
sum_over-le (suc n) f g h = omega (arith, sum_over-le n f g (λ k l. h k (omega arith)), h n (omega arith))

pub sum_over-same : (dims : ℕ) (f g : ℕ → ℕ) → ((axis : ℕ) → axis < dims → f axis ≡ g axis)
    → sum_over dims f ≡ sum_over dims g
sum_over-same zero f g h = refl
sum_over-same (suc n) f g h = omega (arith, sum_over-same n f g (λ k l. h k (omega arith)), h n (omega arith))

product_over-same : (dims : ℕ) (f g : ℕ → ℕ) → ((axis : ℕ) → axis < dims → f axis ≡ g axis)
    → product_over dims f ≡ product_over dims g
product_over-same zero f g h = refl
product_over-same (suc n) f g h = rw (product_over-same n f g (λ k l. h k (omega arith)), h n (omega arith))

product_over-le : (dims : ℕ) (f g : ℕ → ℕ) → ((axis : ℕ) → axis < dims → f axis ≤ g axis)
    → product_over dims f ≤ product_over dims g
product_over-le zero f g h = omega arith
product_over-le (suc n) f g h =
    mul-le _ _ _ _ (product_over-le n f g (λ k l. h k (omega arith))) (h n (omega arith))

-- ---- volume

side_le : (a b c d : ℤ) → a ≤ℤ b → c ≤ℤ a → b ≤ℤ d → unsigned_abs (b -ℤ a) ≤ unsigned_abs (d -ℤ c)
side_le a b c d p q r = omega (arith, ints)

pub volume_of-grows : (dims : ℕ) (a b : Bounds) → IsBox dims a → Within dims a b
    → volume_of dims a ≤ volume_of dims b
volume_of-grows dims a b p w =
    product_over-le dims _ _ (λ axis h. side_le _ _ _ _ (p.spans axis h).ordered (w axis h).0 (w axis h).1)

pub volume_of-join : (dims : ℕ) (a b : Bounds) → IsBox dims a
    → volume_of dims a ≤ volume_of dims (join_of dims a b)
volume_of-join dims a b p = volume_of-grows dims a (join_of dims a b) p (join_of-encloses dims a b).0

pow_over : (dims n : ℕ) (f : ℕ → ℕ) → ((axis : ℕ) → axis < dims → f axis ≤ n) → product_over dims f ≤ n ^ dims
pow_over zero n f h = rw pow-zero (le_refl 1)
pow_over (suc d) n f h =
    rw pow-suc (mul-le _ _ _ _ (pow_over d n f (λ k l. h k (omega arith))) (h d (omega arith)))

pub volume_of-bound : (dims : ℕ) (b : Bounds) → IsDims dims → IsBox dims b → volume_of dims b < 2 ^ 96
volume_of-bound dims b d p =
    product_bound dims _ d.1
    (pow_over dims 4294967295 (side_of b)
    (λ axis h. let s = p.spans axis h in omega (arith, ints, s.low_fits.sfits, s.high_fits.sfits, s.ordered)))

-- ---- overlap

pub meet_of-side : (dims : ℕ) (a b : Bounds) (axis : ℕ) → axis < dims
    → side_of (meet_of dims a b) axis ≡ unsigned_abs
    (int_min (on_axis a.high axis) (on_axis b.high axis) -ℤ int_max (on_axis a.low axis) (on_axis b.low axis))
meet_of-side dims a b axis h = simp on_axis-each_axis

meets_or_not : (dims : ℕ) (a b : Bounds) → Meets dims a b ⊎ (Meets dims a b → ⊥)
meets_or_not dims a b = from_test (meets_test dims a b) (Meets dims a b) (meets_test_true dims a b)
  where
    from_test : (s : Bool) (P : Type 0) → ((s ≡ true) ↔ P) → P ⊎ (P → ⊥)
    from_test true P e = inl (e.0 refl)
    from_test false P e = inr (λ p. false≢true (e.1 p))

pub overlap_of-meet : (dims : ℕ) (a b : Bounds) → Meets dims a b
    → overlap_of dims a b ≡ volume_of dims (meet_of dims a b)
unfolding overlap_of
overlap_of-meet dims a b m = rw ((meets_test_true dims a b).1 m)

pub overlap_of-apart : (dims : ℕ) (a b : Bounds) → (Meets dims a b → ⊥) → overlap_of dims a b ≡ 0
unfolding overlap_of
overlap_of-apart dims a b n =
    rw (test_fails (meets_test dims a b) (Meets dims a b) (meets_test_true dims a b) n)

pub overlap_of-grows : (dims : ℕ) (a b c : Bounds) → IsBox dims a → IsBox dims b → Within dims a c
    → overlap_of dims a b ≤ overlap_of dims c b
overlap_of-grows dims a b c p q w =
    elim (meets_or_not dims a b) [
      | inl m ↦ rw (overlap_of-meet dims a b m, overlap_of-meet dims c b (Meets-grows dims a b c w m))
          (volume_of-grows dims _ _ (IsBox-meet_of dims a b p q m) (meet_of-grows dims a b c w))
      | inr n ↦ rw (overlap_of-apart dims a b n) (omega arith)
    ]

pub overlap_of-commutes : (dims : ℕ) (a b : Bounds) → overlap_of dims a b ≡ overlap_of dims b a
overlap_of-commutes dims a b =
    elim (meets_or_not dims a b) [
      | inl m ↦ overlap_of-meet dims a b m ∙ ap (volume_of dims) (meet_of-commutes dims a b)
          ∙ sym (overlap_of-meet dims b a (Meets-sym dims a b m))
      | inr n ↦ overlap_of-apart dims a b n ∙ sym (overlap_of-apart dims b a (λ m. n (Meets-sym dims b a m)))
    ]

pub overlap_of-volume : (dims : ℕ) (a b : Bounds) → IsBox dims a → IsBox dims b
    → overlap_of dims a b ≤ volume_of dims a
overlap_of-volume dims a b p q =
    elim (meets_or_not dims a b) [
      | inl m ↦ rw (overlap_of-meet dims a b m)
          (volume_of-grows dims _ _ (IsBox-meet_of dims a b p q m) (meet_of-within dims a b))
      | inr n ↦ rw (overlap_of-apart dims a b n) (omega arith)
    ]

pub overlap_of-enclosed : (dims : ℕ) (a b : Bounds) → IsBox dims a → Within dims a b
    → overlap_of dims a b ≡ volume_of dims a
overlap_of-enclosed dims a b p w =
    overlap_of-meet dims a b
    (λ axis h.
    let s = (p.spans axis h).ordered in
    let u = w axis h in
    (omega (arith, ints), omega (arith, ints))) ∙
    product_over-same dims _ _
    (λ axis h. let s = (p.spans axis h).ordered in let u = w axis h in
    simp on_axis-each_axis (omega (arith, ints, clamps)))

-- ---- distance

-- no coordinate between the bounds is nearer than the clamped one
clamp_least : (low high p q : ℤ) → low ≤ℤ q → q ≤ℤ high
    → unsigned_abs (p -ℤ int_max low (int_min p high)) ≤ unsigned_abs (p -ℤ q)
clamp_least low high p q l h = omega (arith, ints, clamps)

pub point_dist2_of-least : (dims : ℕ) (b : Bounds) (p q : List ℤ) → HoldsPoint dims b q
    → point_dist2_of dims b p ≤ dist2 dims p q
point_dist2_of-least dims b p q inside =
    sum_over-le dims _ _
    (λ axis h.
    let u = inside axis h in
    let e = clamp_least (on_axis b.low axis) (on_axis b.high axis) (on_axis p axis) (on_axis q axis) u.0
    u.1 in
    mul-le _ _ _ _ e e)

pub point_dist2_of-reached : (dims : ℕ) (b : Bounds) (p : List ℤ) → IsBox dims b
    → ((q : List ℤ) × IsPoint dims q × HoldsPoint dims b q × (dist2 dims p q ≡ point_dist2_of dims b p))
point_dist2_of-reached dims b p box = (
  each_axis dims (nearest_on b p),
  length-each_axis dims _,
  λ axis h. simp on_axis-each_axis (
    omega (arith, ints, clamps, (box.spans axis h).ordered),
    omega (arith, ints, clamps, (box.spans axis h).ordered),
  ),
  sum_over-same dims _ _ (λ axis h. simp on_axis-each_axis),
)

-- the nearest point of the inner box is one of the outer box
pub point_dist2_of-falls : (dims : ℕ) (a b : Bounds) (p : List ℤ) → IsBox dims a → Within dims a b
    → point_dist2_of dims b p ≤ point_dist2_of dims a p
point_dist2_of-falls dims a b p box w =
    let near = point_dist2_of-reached dims a p box in
    rw (← near.3)
    (point_dist2_of-least dims b p near.0
    (λ axis h. let u = w axis h in let v = near.2 axis h in (omega (arith, ints), omega (arith, ints))))
