-- The numbers beside a decimal, from its size and its sign.
use Rattle.std.proofs.Common.{◌≡◌, ℕ, ◌+◌, ◌*◌, ◌^◌, ◌<◌, ◌≤◌, ◌⊎◌, inl, inr, Bool, true, false, List}
use Rattle.std.proofs.Common.{length, ℤ, pos, negsuc, neg_ℤ}
use Rattle.std.proofs.Common.{refl, sym, ap, ◌∙◌, subst, arith}
use Rattle.std.proofs.Math.Nat.{one-le-pow}
use Rattle.std.specs.Prelude.{◌≤ℤ◌, ◌<ℤ◌}
use Rattle.std.proofs.lemmas.Int.{ints}
use Rattle.fast_float.specs.Text.{Parts, digits_of, tens_up, tens_down, with_sign}
use Rattle.box_import.specs.Decimals.{numeral, is_negative, numerator, denominator}
use Rattle.box_import.specs.Decimals.{IsNear, IsRoundedDown, IsRoundedUp, IsRoundedOutward, IsOutOfRange}
use Rattle.box_import.proofs.SignLemmas.{negative_down, negative_up, positive_down, positive_up, too_large}

module _ (text : List ℕ) (scale low high : ℕ) (p : Parts) (is : p ≡ numeral text)
    (near : IsNear low high (digits_of p * 10 ^ tens_up p * scale) (10 ^ tens_down p))
    (ordered : low ≤ high) where
  its_near : IsNear low high (digits_of (numeral text) * 10 ^ tens_up (numeral text) * scale)
      (denominator text)
  its_near =
      let P : Parts → Type 0
      = λ q. IsNear low high (digits_of q * 10 ^ tens_up q * scale) (10 ^ tens_down q) in
      subst P is near

  some : 0 < denominator text
  some = one-le-pow (tens_down (numeral text)) 10 (omega arith)

  -- below zero
  pub rounded_negative : (l h : ℤ) → is_negative text ≡ true → high ≤ 2 ^ 31 → l ≡ neg_ℤ (pos high)
      → h ≡ neg_ℤ (pos low) → IsRoundedOutward l h text scale
  rounded_negative l h minus small is_low is_high =
      let between = its_near.near (omega arith) in
      let n = digits_of (numeral text) * 10 ^ tens_up (numeral text) * scale in
      let d = denominator text in
      let signed : neg_ℤ (pos n) ≡ numerator text scale = ap (λ b. with_sign b n) (sym minus) in
      let D : ℤ → Type 0 = λ z. IsRoundedDown z (neg_ℤ (pos n)) d in
      let U : ℤ → Type 0 = λ z. IsRoundedUp z (neg_ℤ (pos n)) d in
      let E : ℤ → Type 0 = λ z. IsRoundedDown l z d in
      let V : ℤ → Type 0 = λ z. IsRoundedUp h z d in
      record {
        down = subst E signed (subst D (sym is_low) (negative_down low high n d between));
        up = subst V signed (subst U (sym is_high) (negative_up low high n d between));
      }

  pub refused_negative : is_negative text ≡ true → 2 ^ 31 < high → IsOutOfRange text scale
  refused_negative minus large =
      let n = digits_of (numeral text) * 10 ^ tens_up (numeral text) * scale in
      let d = denominator text in
      let signed : neg_ℤ (pos n) ≡ numerator text scale = ap (λ b. with_sign b n) (sym minus) in
      let beyond = too_large low high n d (2 ^ 31) some its_near ordered large (omega arith) in
      let P : ℤ → Type 0 = λ z. z <ℤ neg_ℤ (pos (2147483648 * d)) in
      let below : neg_ℤ (pos n) <ℤ neg_ℤ (pos (2147483648 * d)) = omega (arith, ints, beyond) in
      inl (subst P signed below)

  -- from zero on
  pub rounded_positive : (l h : ℤ) → is_negative text ≡ false → high < 2 ^ 31 → l ≡ pos low
      → h ≡ pos high → IsRoundedOutward l h text scale
  rounded_positive l h plus small is_low is_high =
      let between = its_near.near (omega arith) in
      let n = digits_of (numeral text) * 10 ^ tens_up (numeral text) * scale in
      let d = denominator text in
      let signed : pos n ≡ numerator text scale = ap (λ b. with_sign b n) (sym plus) in
      let D : ℤ → Type 0 = λ z. IsRoundedDown z (pos n) d in
      let U : ℤ → Type 0 = λ z. IsRoundedUp z (pos n) d in
      let E : ℤ → Type 0 = λ z. IsRoundedDown l z d in
      let V : ℤ → Type 0 = λ z. IsRoundedUp h z d in
      record {
        down = subst E signed (subst D (sym is_low) (positive_down low high n d between));
        up = subst V signed (subst U (sym is_high) (positive_up low high n d between));
      }

  pub refused_positive : is_negative text ≡ false → 2 ^ 31 ≤ high → IsOutOfRange text scale
  refused_positive plus large =
      let n = digits_of (numeral text) * 10 ^ tens_up (numeral text) * scale in
      let d = denominator text in
      let signed : pos n ≡ numerator text scale = ap (λ b. with_sign b n) (sym plus) in
      let beyond = too_large low high n d 2147483647 some its_near ordered (omega arith) (omega arith) in
      let P : ℤ → Type 0 = λ z. pos (2147483647 * d) <ℤ z in
      let above : pos (2147483647 * d) <ℤ pos n = omega (arith, ints, beyond) in
      inr (subst P signed above)
