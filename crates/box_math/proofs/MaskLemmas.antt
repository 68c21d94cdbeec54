-- Masks put together: by places, and by axes.
use Rattle.std.proofs.Common.{ℕ, zero, suc, ◌+◌, ◌*◌, ◌^◌, ◌/◌, ◌<◌, ◌≤◌, ◌≡◌, ◌==◌, ℤ, Bool, true, false}
use Rattle.std.proofs.Common.{◌&&◌, nat_lt, cond, int_le, List, [], ◌∷◌, map, slice_index_or, refl, sym, ap}
use Rattle.std.proofs.Common.{ap₂, ◌∙◌, arith, bit_and, inl, inr, subst, pow_mono, pow_pos}
use Rattle.std.proofs.lemmas.Bool.{cases_eq, cases_lt, le-ltb, lt-ltb}
use Rattle.std.proofs.lemmas.List.{get_or_past}
use Rattle.std.proofs.Math.Nat.{add-mul-div_right, div-eq_of_lt, mul_left_comm, pow-succ'}
use Rattle.std.proofs.lemmas.Nat.{and_block}
use Rattle.std.proofs.lemmas.List.FromFn.{get_or-map-range_with_len, length-map-range_with_len}
use Rattle.std.proofs.lemmas.Simd.{mask_l-lt, bit_mask_l}
use Rattle.std.specs.List.{range_with_len}
use Rattle.box_math.specs.Bounds.{Bounds, all_over, meets_test, on_axis}
use Rattle.box_math.specs.Masks.{box_in_columns, has_bit, mask_from}
use Rattle.box_math.proofs.BoxLaws.{on_axis-each_axis}
use lib.Lanes.{mask_l}

-- ---- axes

-- the box in a place of the columns meets the window on an axis
abbrev pub meets_on : List (List ℤ) → List (List ℤ) → Bounds → ℕ → ℕ → Bool
meets_on lows highs window k axis =
    int_le (on_axis (slice_index_or lows axis []) k) (on_axis window.high axis)
    && int_le (on_axis window.low axis) (on_axis (slice_index_or highs axis []) k)

all_over_same : (n : ℕ) (t u : ℕ → Bool) → ((axis : ℕ) → axis < n → t axis ≡ u axis)
    → all_over n t ≡ all_over n u
all_over_same zero t u same = refl
all_over_same (suc n) t u same =
    ap₂ (λ a b. a && b) (all_over_same n t u (λ axis h. same axis (omega arith))) (same n (omega arith))

-- on one axis it does not, so it does not on all
pub one_axis_fails : (n : ℕ) (t : ℕ → Bool) (axis : ℕ) → axis < n → t axis ≡ false → all_over n t ≡ false
one_axis_fails zero t axis h fails = absurd (omega arith)
one_axis_fails (suc n) t axis h fails = elim (cases_eq axis n) [
  | inl last ↦ ap (λ b. all_over n t && b) (ap t (sym last) ∙ fails) ∙ and_false (all_over n t)
  | inr before ↦ ap (λ b. b && t n) (one_axis_fails n t axis (omega arith) fails)
]
  where
    and_false : (b : Bool) → (b && false) ≡ false
    and_false true = refl
    and_false false = refl

-- it does so on one axis more
pub one_axis_more : (t : ℕ → Bool) (axis : ℕ) → all_over axis t ≡ true → t axis ≡ true
    → all_over (axis + 1) t ≡ true
one_axis_more t axis so now = ap (λ n. all_over n t) (let e : axis + 1 ≡ suc axis = omega arith in e)
    ∙ ap₂ (λ a b. a && b) so now

-- it meets the window where it does so on each axis
pub meets_by_axes : (dims : ℕ) (lows highs : List (List ℤ)) (window : Bounds) (k : ℕ)
    → all_over dims (meets_on lows highs window k) ≡ meets_test dims (box_in_columns dims lows highs k) window
unfolding meets_test
meets_by_axes dims lows highs window k = sym (all_over_same dims _ (meets_on lows highs window k) (λ axis h.
    ap₂ (λ a b. int_le a (on_axis window.high axis) && int_le (on_axis window.low axis) b)
    (on_axis-each_axis dims (λ x. on_axis (slice_index_or lows x []) k) axis h)
    (on_axis-each_axis dims (λ x. on_axis (slice_index_or highs x []) k) axis h)))

-- ---- masks

bits_and : (a b : Bool) → bit_and (cond a 1 0) (cond b 1 0) ≡ cond (a && b) 1 0
bits_and true true = refl
bits_and true false = refl
bits_and false true = refl
bits_and false false = refl

-- a bit is below 2
pub bit_lt : (a : Bool) → cond a 1 0 < 2 ^ 1
bit_lt true = omega arith
bit_lt false = omega arith

-- places that pass both tests
pub both_masks : (f g : ℕ → Bool) (ks : List ℕ)
    → bit_and (mask_l (map f ks)) (mask_l (map g ks)) ≡ mask_l (map (λ k. f k && g k) ks)
both_masks f g [] = refl
both_masks f g (k ∷ ks) =
    let x = mask_l (map f ks) in
    let y = mask_l (map g ks) in
    ap₂ bit_and (let e : cond (f k) 1 0 + 2 * x ≡ x * 2 ^ 1 + cond (f k) 1 0 = omega arith in e)
    (let e : cond (g k) 1 0 + 2 * y ≡ y * 2 ^ 1 + cond (g k) 1 0 = omega arith in e)
    ∙ and_block 1 x y (cond (f k) 1 0) (cond (g k) 1 0) (bit_lt (f k)) (bit_lt (g k))
    ∙ ap₂ (λ a b. a * 2 ^ 1 + b) (both_masks f g ks) (bits_and (f k) (g k))
    ∙ (let z = mask_l (map (λ k. f k && g k) ks) in
    let e : z * 2 ^ 1 + cond (f k && g k) 1 0 ≡ cond (f k && g k) 1 0 + 2 * z = omega arith in e)

same_masks : (f g : ℕ → Bool) → ((k : ℕ) → f k ≡ g k) → (ks : List ℕ) → mask_l (map f ks) ≡ mask_l (map g ks)
same_masks f g same [] = refl
same_masks f g same (k ∷ ks) = ap₂ (λ a b. cond a 1 0 + 2 * b) (same k) (same_masks f g same ks)

-- the mask of a test is that of one that says the same
pub same_mask : (f g : ℕ → Bool) → ((k : ℕ) → f k ≡ g k) → (place count : ℕ)
    → mask_from f place count ≡ mask_from g place count
unfolding mask_from
same_mask f g same place count = same_masks f g same (range_with_len place count)

-- eight places that all pass
pub all_eight : (place : ℕ) → mask_from (λ _. true) place 8 ≡ 255
unfolding mask_from
all_eight place = refl

-- one axis more
pub next_axis : (t : ℕ → ℕ → Bool) (axis place count : ℕ)
    → bit_and (mask_from (λ k. all_over axis (t k)) place count)
    (mask_from (λ k. t k axis) place count) ≡ mask_from (λ k. all_over (axis + 1) (t k)) place count
unfolding mask_from
next_axis t axis place count =
    both_masks (λ k. all_over axis (t k)) (λ k. t k axis) (range_with_len place count)
    ∙ same_masks _ _ (λ k. ap (λ n. all_over n (t k)) (let e : suc axis ≡ axis + 1 = omega arith in e))
    (range_with_len place count)

-- ---- places

mask_lt : (t : ℕ → Bool) (place count : ℕ) → mask_l (map t (range_with_len place count)) < 2 ^ count
mask_lt t place count =
    subst (λ n. mask_l (map t (range_with_len place count)) < 2 ^ n)
    (length-map-range_with_len t place count) (mask_l-lt (map t (range_with_len place count)))

-- a mask of so many places is below 2 ^ 100
pub mask_fits : (t : ℕ → Bool) (place count : ℕ) → count ≤ 100 → mask_from t place count < 2 ^ 100
unfolding mask_from
mask_fits t place count few = let small = mask_lt t place count in
    let power : 2 ^ count ≤ 2 ^ 100 = pow_mono few in omega (arith, small, power)

-- the mask of eight places is a byte
pub eight_fit : (t : ℕ → Bool) (place : ℕ) → mask_from t place 8 < 256
unfolding mask_from
eight_fit t place = mask_lt t place 8

-- no place
pub no_mask : (t : ℕ → Bool) (place : ℕ) → mask_from t place 0 ≡ 0
unfolding mask_from
no_mask t place = refl

-- a place more, before the others
pub one_more : (t : ℕ → Bool) (place next more count : ℕ) → next ≡ place + 1 → more ≡ suc count
    → mask_from t place more ≡ 2 * mask_from t next count + cond (t place) 1 0
unfolding mask_from
one_more t place next more count at some = ap₂ (λ p n. mask_from t place n) at some
    ∙ (let e : cond (t place) 1 0 + 2 * mask_from t (place + 1) count ≡ 2 * mask_from t (place + 1)
    count + cond (t place) 1 0 = omega arith in e)
    ∙ ap (λ p. 2 * mask_from t p count + cond (t place) 1 0) (sym at)

-- eight places more, before the others
pub eight_more : (t : ℕ → Bool) (place count : ℕ)
    → mask_from t place (8 + count) ≡ 256 * mask_from t (place + 8) count + mask_from t place 8
eight_more t place count =
    let s0 = one_more t place (place + 1) (8 + count) (7 + count) (omega arith) (omega arith) in
    let s1 = one_more t (place + 1) (place + 2) (7 + count) (6 + count) (omega arith) (omega arith) in
    let s2 = one_more t (place + 2) (place + 3) (6 + count) (5 + count) (omega arith) (omega arith) in
    let s3 = one_more t (place + 3) (place + 4) (5 + count) (4 + count) (omega arith) (omega arith) in
    let s4 = one_more t (place + 4) (place + 5) (4 + count) (3 + count) (omega arith) (omega arith) in
    let s5 = one_more t (place + 5) (place + 6) (3 + count) (2 + count) (omega arith) (omega arith) in
    let s6 = one_more t (place + 6) (place + 7) (2 + count) (1 + count) (omega arith) (omega arith) in
    let s7 = one_more t (place + 7) (place + 8) (1 + count) count (omega arith) (omega arith) in
    let b0 = one_more t place (place + 1) 8 7 (omega arith) (omega arith) in
    let b1 = one_more t (place + 1) (place + 2) 7 6 (omega arith) (omega arith) in
    let b2 = one_more t (place + 2) (place + 3) 6 5 (omega arith) (omega arith) in
    let b3 = one_more t (place + 3) (place + 4) 5 4 (omega arith) (omega arith) in
    let b4 = one_more t (place + 4) (place + 5) 4 3 (omega arith) (omega arith) in
    let b5 = one_more t (place + 5) (place + 6) 3 2 (omega arith) (omega arith) in
    let b6 = one_more t (place + 6) (place + 7) 2 1 (omega arith) (omega arith) in
    let b7 = one_more t (place + 7) (place + 8) 1 0 (omega arith) (omega arith) in
    let end = no_mask t (place + 8) in
    omega (arith, s0, s1, s2, s3, s4, s5, s6, s7, b0, b1, b2, b3, b4, b5, b6, b7, end)

-- so many places, and those after them
pub split_mask : (t : ℕ → Bool) (p place q : ℕ)
    → mask_from t place (p + q) ≡ mask_from t place p + mask_from t (place + p) q * 2 ^ p
split_mask t zero place q =
    omega (
      arith,
      ap (λ n. mask_from t place n) (let e : 0 + q ≡ q = omega arith in e),
      ap (λ n. mask_from t n q) (let e : place + 0 ≡ place = omega arith in e),
      no_mask t place,
    )
split_mask t (suc p) place q =
    let all = one_more t place (place + 1) (suc p + q) (p + q) (omega arith) (omega arith) in
    let front = one_more t place (place + 1) (suc p) p (omega arith) (omega arith) in
    let rest = split_mask t p (place + 1) q in
    let last = ap (λ n. mask_from t n q) (let e : place + 1 + p ≡ place + suc p = omega arith in e) in
    let x = mask_from t (place + suc p) q in
    let power : x * 2 ^ suc p ≡ 2 * (x * 2 ^ p) = ap (λ y. x * y) (pow-succ' 2 p)
    ∙ mul_left_comm x 2 (2 ^ p) in
    omega (arith, all, front, rest, ap (λ y. y * 2 ^ p) last, power)

-- the places before some are shifted away
pub shifted_mask : (t : ℕ → Bool) (p place q : ℕ)
    → mask_from t place (p + q) / 2 ^ p ≡ mask_from t (place + p) q
unfolding mask_from
shifted_mask t p place q =
    let some : 0 < 2 ^ p = pow_pos p in
    ap (λ m. m / 2 ^ p) (split_mask t p place q)
    ∙ add-mul-div_right (mask_from t place p) (mask_from t (place + p) q) some
    ∙ ap (λ n. n + mask_from t (place + p) q) (div-eq_of_lt (mask_lt t place p))
    ∙ (let e : 0 + mask_from t (place + p) q ≡ mask_from t (place + p) q = omega arith in e)

set_is : (b : Bool) → (cond b 1 0 == 1) ≡ b
set_is true = refl
set_is false = refl

-- each bit answers for its place
pub bit_of_mask : (t : ℕ → Bool) (count k : ℕ) → has_bit (mask_from t 0 count) k ≡ (nat_lt k count && t k)
unfolding mask_from
bit_of_mask t count k =
    ap (λ n. n == 1) (bit_mask_l (map t (range_with_len 0 count)) k) ∙ set_is _ ∙ elim (cases_lt k count) [
      | inl within ↦ get_or-map-range_with_len t 0 count k k false within (omega arith)
          ∙ ap (λ b. b && t k) (sym (lt-ltb k count within))
      | inr past ↦ get_or_past (map t (range_with_len 0 count)) k false
          (omega (arith, length-map-range_with_len t 0 count))
          ∙ ap (λ b. b && t k) (sym (le-ltb k count past))
    ]
