-- Masks of the boxes in a page: by axes, cut where the places end, and from a place on.
use Rattle.std.proofs.Common.{◌≡◌, ℕ, zero, suc, ◌+◌, ◌*◌, ◌/◌, ◌%◌, ◌-◌, ◌^◌, ◌<◌, ◌≤◌, ◌==◌, ⊎_elim, ℤ}
use Rattle.std.proofs.Common.{◌&&◌, nat_lt, int_le, min, Bool, false, true, bit_and, List, FitsSigned, w32, map}
use Rattle.std.proofs.Common.{refl, sym, ◌∙◌, ap, ap₂, subst, inl, inr, of_z, to_z, pow_mono, arith}
use Rattle.std.proofs.lemmas.Bool.{cases_lt, le-ltb, lt-ltb}
use Rattle.std.proofs.lemmas.Int.{ints, to_z-of_z}
use Rattle.std.proofs.lemmas.List.FromFn.{length-map-range_with_len}
use Rattle.std.proofs.lemmas.Nat.{div-add-mod', pow_pos}
use Rattle.std.proofs.lemmas.Nat.Bits.{bit_at_and, bit_at_cat_high, bit_at_ones, bit_at_ones_above, bit_at-lt}
use Rattle.std.proofs.lemmas.Nat.Bits.{bit_at-trailing_zeros, bit_at-zero}
use Rattle.std.proofs.lemmas.Simd.{mask_l-lt}
use Rattle.std.proofs.Math.Nat.{mod-lt}
use Rattle.std.specs.Int.{bit_at, trailing_zeros, w128}
use Rattle.std.specs.Int.Count.{trailing_of_zero}
use Rattle.std.specs.List.{range_with_len}
use Rattle.block_bytes.specs.Laws.{number_at-lt}
use Rattle.block_bytes.specs.Numbers.{AreBytes, number_at, signed_at}
use Rattle.box_math.specs.Bounds.{Bounds, all_over, meets_test, on_axis}
use Rattle.box_math.specs.Masks.{has_bit, mask_from}
use Rattle.node_bytes.proofs.ColumnLemmas.{high_read, low_read}
use Rattle.node_bytes.specs.Layout.{item_at}
use lib.Lanes.{mask_l}

-- a signed number of a page of bytes fits its type
pub signed_fits : (at : ℕ) (page : List ℕ) → AreBytes page → FitsSigned w32 (signed_at at page)
unfolding signed_at
signed_fits at page bytes = let small : number_at 4 at page < 256 ^ 4 = number_at-lt 4 at page bytes in
    omega (arith, ints)

-- the box in a place of the page meets the window on an axis
abbrev pub meets_on : List ℕ → Bounds → ℕ → ℕ → Bool
meets_on page window k axis = int_le (signed_at (16 + 800 * axis + 4 * k) page) (on_axis window.high axis)
    && int_le (on_axis window.low axis) (signed_at (16 + 800 * axis + 400 + 4 * k) page)

all_over_same : (n : ℕ) (t u : ℕ → Bool) → ((axis : ℕ) → axis < n → t axis ≡ u axis)
    → all_over n t ≡ all_over n u
all_over_same zero t u same = refl
all_over_same (suc n) t u same =
    ap₂ (λ a b. a && b) (all_over_same n t u (λ axis h. same axis (omega arith))) (same n (omega arith))

-- it meets the window where it does so on each axis
pub meets_by_axes : (dims : ℕ) (page : List ℕ) (window : Bounds) (k : ℕ)
    → all_over dims (meets_on page window k) ≡ meets_test dims (item_at dims page k).bounds window
unfolding meets_test
meets_by_axes dims page window k = sym (all_over_same dims _ (meets_on page window k) (λ axis h.
    ap₂ (λ a b. int_le a (on_axis window.high axis) && int_le (on_axis window.low axis) b)
    (low_read dims k page axis h) (high_read dims k page axis h)))

-- the mask of so many places is below their power of two
pub mask_below : (t : ℕ → Bool) (place count : ℕ) → mask_from t place count < 2 ^ count
unfolding mask_from
mask_below t place count =
    subst (λ n. mask_l (map t (range_with_len place count)) < 2 ^ n)
    (length-map-range_with_len t place count) (mask_l-lt (map t (range_with_len place count)))

pub mask_fits : (t : ℕ → Bool) (place count : ℕ) → count ≤ 104 → mask_from t place count < 2 ^ 104
mask_fits t place count few = let small = mask_below t place count in
    let power : 2 ^ count ≤ 2 ^ 104 = pow_mono few in omega (arith, small, power)

-- a number that was read from a page, through a lane
pub lane_read : (x : ℤ) (at place : ℕ) (page : List ℕ) → AreBytes page → x ≡ signed_at at page → at ≡ place
    → to_z w32 (of_z w32 x) ≡ signed_at place page
lane_read x at place page bytes is there = ap (λ z. to_z w32 (of_z w32 z)) is
    ∙ to_z-of_z w32 (signed_at at page) (signed_fits at page bytes) ∙ ap (λ (n : ℕ). signed_at n page) there

one_is_set : (b : ℕ) → b < 2 → min b 1 ≡ b
one_is_set b lt = omega arith

none_is_set : (b : ℕ) → min b 0 ≡ 0
none_is_set b = omega arith

-- the first bits of a mask are those of its first places
pub first_bits : (mask all count k : ℕ) (t : ℕ → Bool) → count ≤ all
    → ((j : ℕ) → has_bit mask j ≡ (nat_lt j all && t j))
    → has_bit (bit_and mask (2 ^ count - 1)) k ≡ (nat_lt k count && t k)
first_bits mask all count k t le each = elim (cases_lt k count) [
  | inl within ↦ ap (λ b. b == 1)
      (bit_at_and mask (2 ^ count - 1) k ∙ ap (min (bit_at mask k)) (bit_at_ones count k within)
      ∙ one_is_set (bit_at mask k) (bit_at-lt mask k))
      ∙ each k ∙ ap (λ b. b && t k) (lt-ltb k all (omega arith) ∙ sym (lt-ltb k count within))
  | inr past ↦ ap (λ b. b == 1)
      (bit_at_and mask (2 ^ count - 1) k ∙ ap (min (bit_at mask k)) (bit_at_ones_above count k past)
      ∙ none_is_set (bit_at mask k))
      ∙ ap (λ b. b && t k) (sym (le-ltb k count past))
]

-- ---- the bits of a mask from a place on

shifted : (mask from k : ℕ) → from ≤ k → bit_at mask k ≡ bit_at (mask / 2 ^ from) (k - from)
shifted mask from k up =
    let whole : mask ≡ mask / 2 ^ from * 2 ^ from + mask % 2 ^ from = sym (div-add-mod' mask (2 ^ from)) in
    ap (λ (n : ℕ). bit_at n k) whole
    ∙ bit_at_cat_high (mask / 2 ^ from) from (mask % 2 ^ from) k (mod-lt mask (pow_pos from)) up

none_before : (n i : ℕ) → n < 2 ^ 128 → i < trailing_zeros w128 n → bit_at n i ≡ 0
none_before n i small below = ⊎_elim
    (λ (some : 0 < n). (bit_at-trailing_zeros w128 n some small).2 i below)
    (λ (none : n ≤ 0). ap (λ (m : ℕ). bit_at m i) (let e : n ≡ 0 = omega (arith, none) in e) ∙ bit_at-zero i)
    (cases_lt 0 n)

pub unset_before : (mask from k : ℕ) → mask / 2 ^ from < 2 ^ 128 → from ≤ k
    → k < from + trailing_zeros w128 (mask / 2 ^ from) → has_bit mask k ≡ false
unset_before mask from k small up below =
    let bit : bit_at mask k ≡ 0 = shifted mask from k up
    ∙ none_before (mask / 2 ^ from) (k - from) small (omega (arith, up, below)) in
    ap (λ (b : ℕ). b == 1) bit

-- the first one that is set
pub set_there : (mask from : ℕ) → mask / 2 ^ from < 2 ^ 128 → from + trailing_zeros w128 (mask / 2 ^ from) < 128
    → has_bit mask (from + trailing_zeros w128 (mask / 2 ^ from)) ≡ true
set_there mask from small within = ⊎_elim
    (λ (some : 0 < mask / 2 ^ from).
    ap (λ (b : ℕ). b == 1)
    (shifted mask from (from + trailing_zeros w128 (mask / 2 ^ from)) (omega arith)
    ∙ ap (bit_at (mask / 2 ^ from))
    (let e : from + trailing_zeros w128 (mask / 2 ^ from) - from ≡ trailing_zeros w128 (mask / 2 ^ from) =
    omega arith in e)
    ∙ (bit_at-trailing_zeros w128 (mask / 2 ^ from) some small).1))
    (λ (none : mask / 2 ^ from ≤ 0). absurd (omega (arith, within, none_set none)))
    (cases_lt 0 (mask / 2 ^ from))
  where
    none_set : mask / 2 ^ from ≤ 0 → trailing_zeros w128 (mask / 2 ^ from) ≡ 128
    none_set none = ap (trailing_zeros w128) (let e : mask / 2 ^ from ≡ 0 = omega (arith, none) in e)
        ∙ trailing_of_zero 128
