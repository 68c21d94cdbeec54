-- Signed numbers on both sides of a signed fraction.
use Rattle.std.proofs.Common.{◌≡◌, ℕ, zero, suc, ◌+◌, ◌-◌, ◌*◌, ◌^◌, ◌<◌, ◌≤◌, ◌⊎◌, inl, inr, ℤ, pos}
use Rattle.std.proofs.Common.{negsuc, neg_ℤ, ◌+ℤ◌, ◌*ℤ◌}
use Rattle.std.proofs.Common.{refl, sym, ap, ◌∙◌, subst, arith}
use Rattle.std.proofs.Math.Nat.{mul-le-mul_right}
use Rattle.std.specs.Prelude.{◌≤ℤ◌, ◌<ℤ◌}
use Rattle.std.proofs.lemmas.Int.{ints}
use Rattle.std.proofs.lemmas.Bool.{cases_lt}
use Rattle.box_import.specs.Decimals.{IsBetween, IsNear, IsRoundedDown, IsRoundedUp}

-- a minus goes through a product
pub neg-mul : (a d : ℕ) → neg_ℤ (pos a) *ℤ pos d ≡ neg_ℤ (pos (a * d))
neg-mul zero d = omega (arith, ints)
neg-mul (suc a) d = refl

pub positive_down : (low high n d : ℕ) → IsBetween low high n d → IsRoundedDown (pos low) (pos n) d
positive_down low high n d h =
    let no_more = h.no_more in
    let next = h.next_is_more in
    record {
      no_more = omega (arith, ints, no_more);
      next_is_more = omega (arith, ints, next);
    }

pub positive_up : (low high n d : ℕ) → IsBetween low high n d → IsRoundedUp (pos high) (pos n) d
positive_up low high n d h =
    let no_less = h.no_less in
    let before = h.one_before_is_less in
    record {
      no_less = omega (arith, ints, no_less);
      one_before_is_less = omega (arith, ints, before);
    }

pub negative_down : (low high n d : ℕ) → IsBetween low high n d
    → IsRoundedDown (neg_ℤ (pos high)) (neg_ℤ (pos n)) d
negative_down low high n d h =
    let no_less = h.no_less in
    let before = h.one_before_is_less in
    let product = neg-mul high d in
    record {
      no_more = omega (arith, ints, no_less, product);
      next_is_more = omega (arith, ints, before, product);
    }

pub negative_up : (low high n d : ℕ) → IsBetween low high n d
    → IsRoundedUp (neg_ℤ (pos low)) (neg_ℤ (pos n)) d
negative_up low high n d h =
    let no_more = h.no_more in
    let next = h.next_is_more in
    let product = neg-mul low d in
    record {
      no_less = omega (arith, ints, no_more, product);
      one_before_is_less = omega (arith, ints, next, product);
    }

-- a size beyond all coordinates
pub too_large : (low high n d most : ℕ) → 0 < d → IsNear low high n d → low ≤ high → most < high
    → most < 2 ^ 32 → most * d < n
too_large low high n d most some h ordered above small = elim (cases_lt low (2 ^ 32)) [
  | inl near ↦
      let before = (h.near near).one_before_is_less in
      let next : most + 1 ≤ high = omega arith in
      let times = mul-le-mul_right d next in
      omega (arith, before, times)
  | inr far ↦
      let large = h.far far in
      let next : most + 1 ≤ 2 ^ 32 = omega arith in
      let times = mul-le-mul_right d next in
      omega (arith, large, times)
]
