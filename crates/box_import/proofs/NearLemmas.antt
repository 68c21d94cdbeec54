-- The whole numbers on both sides of a whole number and a fraction, up to 2^32.
use Rattle.std.proofs.Common.{◌≡◌, ℕ, zero, suc, ◌+◌, ◌-◌, ◌*◌, ◌^◌, ◌<◌, ◌≤◌, ◌⊎◌, inl, inr, List, ◌++◌}
use Rattle.std.proofs.Common.{length, take, drop, min}
use Rattle.std.proofs.Common.{refl, sym, ap, ◌∙◌, subst, arith}
use Rattle.std.proofs.Math.Nat.{mul-le-mul_right, one-le-pow}
use Rattle.std.proofs.lemmas.Nat.{mul-le, pow-add}
use Rattle.std.proofs.lemmas.Bool.{cases_lt}
use Rattle.std.proofs.lemmas.List.{drop_all}
use Rattle.std.specs.Str.Parse.{digits_value}
use Rattle.box_import.specs.Decimals.{IsBetween, IsNear}
use Rattle.box_import.proofs.DigitLemmas.{digits_value-cut}
use Rattle.box_import.proofs.BetweenLemmas.{between_same}

-- a whole number more
pub between_above : (low high n d whole : ℕ) → IsBetween low high n d
    → IsBetween (whole + low) (whole + high) (whole * d + n) d
between_above low high n d whole h =
    let no_more = h.no_more in
    let next_is_more = h.next_is_more in
    let no_less = h.no_less in
    let before = h.one_before_is_less in
    record {
      no_more = omega (arith, no_more);
      next_is_more = omega (arith, next_is_more);
      no_less = omega (arith, no_less);
      one_before_is_less = omega (arith, before);
    }

-- the same fraction, with more in both parts
pub between_times : (low high n d c : ℕ) → 0 < c → IsBetween low high n d → IsBetween low high (n * c) (d * c)
between_times low high n d c some h =
    let no_more = mul-le-mul_right c h.no_more in
    let above = h.next_is_more in
    let next : n + 1 ≤ low * d + d = omega (arith, above) in
    let next_is_more = mul-le-mul_right c next in
    let no_less = mul-le-mul_right c h.no_less in
    let below = h.one_before_is_less in
    let one : high * d + 1 ≤ n + d = omega (arith, below) in
    let before = mul-le-mul_right c one in
    record {
      no_more = omega (arith, no_more);
      next_is_more = omega (arith, next_is_more);
      no_less = omega (arith, no_less);
      one_before_is_less = omega (arith, before);
    }

pub near_times : (low high n d c : ℕ) → 0 < c → IsNear low high n d → IsNear low high (n * c) (d * c)
near_times low high n d c some h = record {
  near = λ small. between_times low high n d c some (h.near small);
  far = λ large. let more = mul-le-mul_right c (h.far large) in omega (arith, more);
}

pub near_same : (low high n d m e : ℕ) → n ≡ m → d ≡ e → IsNear low high n d → IsNear low high m e
near_same low high n d m e same_n same_d h =
    let P : ℕ → Type 0 = λ k. IsNear low high k d in
    let Q : ℕ → Type 0 = λ k. IsNear low high m k in
    subst Q same_d (subst P same_n h)

-- a whole number times a scale, and a fraction
pub near_above : (whole scale low high n d : ℕ) → 1 ≤ scale → IsBetween low high n d
    → IsNear (min whole (2 ^ 32) * scale + low) (min whole (2 ^ 32) * scale + high) (whole * scale * d + n) d
near_above whole scale low high n d some h = go (cases_lt whole (2 ^ 32))
  where
    go : (whole < 2 ^ 32) ⊎ (2 ^ 32 ≤ whole)
        → IsNear (min whole (2 ^ 32) * scale + low) (min whole (2 ^ 32) * scale + high)
        (whole * scale * d + n) d
    go (inl small) =
        let is : whole ≡ min whole (2 ^ 32) = omega arith in
        let P : ℕ → Type 0 = λ k. IsNear (k * scale + low) (k * scale + high) (whole * scale * d + n) d in
        let between = between_above low high n d (whole * scale) h in
        let no_more = between.no_more in
        subst P is (record {
          near = λ below. between;
          far = λ large. let more = mul-le-mul_right d large in omega (arith, more, no_more);
        })
    go (inr large) =
        let is : 2 ^ 32 ≡ min whole (2 ^ 32) = omega arith in
        let P : ℕ → Type 0 = λ k. IsNear (k * scale + low) (k * scale + high) (whole * scale * d + n) d in
        let all = mul-le (2 ^ 32) 1 whole scale large some in
        let more = mul-le-mul_right d all in
        subst P is (record {
          near = λ below. absurd (omega arith);
          far = λ beyond. omega (arith, more);
        })

-- the first digits stand behind the point, or no zeros do
no_front : (front rest whole tens zeros scale : ℕ) → front ≡ 0 → whole ≡ front * tens + rest
    → front * scale * (tens * zeros) + rest * scale ≡ whole * scale
no_front zero rest whole tens zeros scale none cut =
    let times = ap (λ k. k * scale) cut in omega (arith, times)
no_front (suc front) rest whole tens zeros scale none cut = absurd (omega arith)

no_zeros : (front rest whole tens zeros scale : ℕ) → zeros ≡ 1 → whole ≡ front * tens + rest
    → front * scale * (tens * zeros) + rest * scale ≡ whole * scale
no_zeros front rest whole tens zeros scale one cut =
    let times = ap (λ k. k * scale) cut in
    let same = ap (λ k. front * scale * (tens * k)) one in
    omega (arith, times, same)

-- digits over ten to a power as well
pub near_lowered : (ds : List ℕ) (a b power scale low high : ℕ) → length ds ≡ a + b → 1 ≤ scale
    → IsBetween low high (digits_value 10 (drop (a - power) ds) * scale)
    (10 ^ (a + b - (a - power)) * 10 ^ (power - a))
    → IsNear (min (digits_value 10 (take (a - power) ds)) (2 ^ 32) * scale + low)
    (min (digits_value 10 (take (a - power) ds)) (2 ^ 32) * scale + high)
    (digits_value 10 ds * scale) (10 ^ (b + power))
near_lowered ds a b power scale low high long some h =
    let from = a - power in
    let front = digits_value 10 (take from ds) in
    let rest = digits_value 10 (drop from ds) in
    let whole = digits_value 10 ds in
    let tens = 10 ^ (a + b - from) in
    let zeros = 10 ^ (power - a) in
    let exponents : a + b - from + (power - a) ≡ b + power = omega arith in
    let power_is : tens * zeros ≡ 10 ^ (b + power)
    = sym (pow-add 10 (a + b - from) (power - a)) ∙ ap (λ k. 10 ^ k) exponents in
    let Long : ℕ → Type 0 = λ k. whole ≡ front * 10 ^ (k - from) + rest in
    let cut : whole ≡ front * tens + rest = subst Long long (digits_value-cut ds from (omega arith)) in
    let value : front * scale * (tens * zeros) + rest * scale ≡ whole * scale
    = elim (cases_lt a power) [
      | inl short ↦
          let first : from ≡ 0 = omega arith in
          let none : front ≡ 0 = ap (λ k. digits_value 10 (take k ds)) first in
          no_front front rest whole tens zeros scale none cut
      | inr enough ↦
          let first : power - a ≡ 0 = omega arith in
          let one : zeros ≡ 1 = ap (λ k. 10 ^ k) first in
          no_zeros front rest whole tens zeros scale one cut
    ] in
    near_same _ _ _ _ _ _ value power_is
    (near_above front scale low high (rest * scale) (tens * zeros) some h)

-- zeros behind a number of which it is known only that it is 2^32 or more
pub min-zeros : (number zeros : ℕ)
    → min (min number (2 ^ 32) * 10 ^ zeros) (2 ^ 32) ≡ min (number * 10 ^ zeros) (2 ^ 32)
min-zeros number zeros = go (cases_lt number (2 ^ 32))
  where
    some : 1 ≤ 10 ^ zeros
    some = one-le-pow zeros 10 (omega arith)

    go : (number < 2 ^ 32) ⊎ (2 ^ 32 ≤ number)
        → min (min number (2 ^ 32) * 10 ^ zeros) (2 ^ 32) ≡ min (number * 10 ^ zeros) (2 ^ 32)
    go (inl small) =
        let is : min number (2 ^ 32) ≡ number = omega arith in
        ap (λ k. min (k * 10 ^ zeros) (2 ^ 32)) is
    go (inr large) =
        let is : min number (2 ^ 32) ≡ 2 ^ 32 = omega arith in
        let more = mul-le (2 ^ 32) 1 number (10 ^ zeros) large some in
        let least = mul-le (2 ^ 32) 1 (2 ^ 32) (10 ^ zeros) (omega arith) some in
        ap (λ k. min (k * 10 ^ zeros) (2 ^ 32)) is ∙ omega (arith, more, least)

-- the point is moved within the fraction, or behind it
within_fraction : (front rest whole tens power scale zeros : ℕ) → zeros ≡ 1 → whole ≡ front * tens + rest
    → (front * zeros * scale * tens + rest * scale) * power ≡ whole * power * scale
within_fraction front rest whole tens power scale zeros one cut =
    let times = ap (λ k. k * power * scale) cut in
    let same = ap (λ k. (front * k * scale * tens + rest * scale) * power) one in
    omega (arith, times, same)

behind_fraction : (front rest whole tens moved power scale zeros : ℕ) → rest ≡ 0 → tens ≡ 1
    → power ≡ zeros * moved → whole ≡ front * tens + rest
    → (front * zeros * scale * tens + rest * scale) * moved ≡ whole * power * scale
behind_fraction front zero whole tens moved power scale zeros none one is cut =
    let all : (front * zeros * scale * tens + 0 * scale) * moved
    ≡ (front * zeros * scale * 1 + 0 * scale) * moved
    = ap (λ k. (front * zeros * scale * k + 0 * scale) * moved) one in
    let same : front * tens ≡ front * 1 = ap (λ k. front * k) one in
    let front_is : whole ≡ front = omega (arith, cut, same) in
    let value : whole * power * scale ≡ front * (zeros * moved) * scale
    = ap (λ k. k * power * scale) front_is ∙ ap (λ k. front * k * scale) is in
    omega (arith, all, value)
behind_fraction front (suc rest) whole tens moved power scale zeros none one is cut = absurd (omega arith)

-- digits times ten to a power
pub near_raised : (ds : List ℕ) (a b power moved scale low high : ℕ) → length ds ≡ a + b → 1 ≤ scale
    → moved ≡ min power b
    → IsBetween low high (digits_value 10 (drop (a + moved) ds) * scale) (10 ^ (a + b - (a + moved)))
    → IsNear
    (min (min (digits_value 10 (take (a + moved) ds)) (2 ^ 32) * 10 ^ (power - moved)) (2 ^ 32) * scale
    + low)
    (min (min (digits_value 10 (take (a + moved) ds)) (2 ^ 32) * 10 ^ (power - moved)) (2 ^ 32) * scale
    + high)
    (digits_value 10 ds * 10 ^ power * scale) (10 ^ b)
near_raised ds a b power moved scale low high long some is_moved h =
    let from = a + moved in
    let front = digits_value 10 (take from ds) in
    let rest = digits_value 10 (drop from ds) in
    let whole = digits_value 10 ds in
    let tens = 10 ^ (a + b - from) in
    let zeros = 10 ^ (power - moved) in
    let Long : ℕ → Type 0 = λ k. whole ≡ front * 10 ^ (k - from) + rest in
    let cut : whole ≡ front * tens + rest = subst Long long (digits_value-cut ds from (omega arith)) in
    let exponents : a + b - from + moved ≡ b = omega arith in
    let bottom : tens * 10 ^ moved ≡ 10 ^ b
    = sym (pow-add 10 (a + b - from) moved) ∙ ap (λ k. 10 ^ k) exponents in
    let value : (front * zeros * scale * tens + rest * scale) * 10 ^ moved ≡ whole * 10 ^ power * scale
    = elim (cases_lt b power) [
      | inl beyond ↦
          let none : rest ≡ 0 = ap (digits_value 10) (drop_all from ds (omega arith)) in
          let last : a + b - from ≡ 0 = omega arith in
          let one : tens ≡ 1 = ap (λ k. 10 ^ k) last in
          let sum : power ≡ power - moved + moved = omega arith in
          let is : 10 ^ power ≡ zeros * 10 ^ moved
          = ap (λ k. 10 ^ k) sum ∙ pow-add 10 (power - moved) moved in
          behind_fraction front rest whole tens (10 ^ moved) (10 ^ power) scale zeros none one is cut
      | inr inside ↦
          let all : power ≡ moved = omega arith in
          let first : power - moved ≡ 0 = omega arith in
          let one : zeros ≡ 1 = ap (λ k. 10 ^ k) first in
          let same : whole * 10 ^ moved * scale ≡ whole * 10 ^ power * scale
          = ap (λ k. whole * 10 ^ k * scale) (sym all) in
          within_fraction front rest whole tens (10 ^ moved) scale zeros one cut ∙ same
    ] in
    let positive : 0 < 10 ^ moved = one-le-pow moved 10 (omega arith) in
    let near = near_above (front * zeros) scale low high (rest * scale) tens some h in
    let P : ℕ → Type 0
    = λ k. IsNear (k * scale + low) (k * scale + high) (whole * 10 ^ power * scale) (10 ^ b) in
    subst P (sym (min-zeros front (power - moved)))
    (near_same _ _ _ _ _ _ value bottom (near_times _ _ _ _ (10 ^ moved) positive near))

-- what the code computes, by the names of its values
near_named : (front scale low high n d f l h : ℕ) → f ≡ front → l ≡ f * scale + low → h ≡ f * scale + high
    → IsNear (front * scale + low) (front * scale + high) n d → IsNear l h n d
near_named front scale low high n d f l h is is_low is_high near =
    let F : ℕ → Type 0 = λ k. IsNear (k * scale + low) (k * scale + high) n d in
    let L : ℕ → Type 0 = λ k. IsNear k (f * scale + high) n d in
    let H : ℕ → Type 0 = λ k. IsNear l k n d in
    subst H (sym is_high) (subst L (sym is_low) (subst F (sym is) near))

pub lowered_near : (ds : List ℕ) (a b power scale low high from zeros front l h : ℕ) → length ds ≡ a + b
    → 1 ≤ scale → from ≡ a - power → zeros ≡ power - a
    → IsBetween low high (digits_value 10 (drop from ds) * scale) (10 ^ (a + b - from) * 10 ^ zeros)
    → front ≡ min (digits_value 10 (take from ds)) (2 ^ 32)
    → l ≡ front * scale + low → h ≡ front * scale + high
    → IsNear l h (digits_value 10 ds * scale) (10 ^ (b + power))
lowered_near ds a b power scale low high from zeros front l h long some is_from is_zeros between is_front
    is_low is_high =
    let Z : ℕ → Type 0
    = λ k. IsBetween low high (digits_value 10 (drop from ds) * scale) (10 ^ (a + b - from) * 10 ^ k) in
    let P : ℕ → Type 0
    = λ k. IsBetween low high (digits_value 10 (drop k ds) * scale) (10 ^ (a + b - k) * 10 ^ (power - a)) in
    let front_is = is_front ∙ ap (λ k. min (digits_value 10 (take k ds)) (2 ^ 32)) is_from in
    near_named _ scale low high _ _ front l h front_is is_low is_high
    (near_lowered ds a b power scale low high long some (subst P is_from (subst Z is_zeros between)))

pub raised_near : (ds : List ℕ) (a b power moved scale low high first front l h : ℕ) → length ds ≡ a + b
    → 1 ≤ scale → moved ≡ min power b
    → IsBetween low high (digits_value 10 (drop (a + moved) ds) * scale) (10 ^ (a + b - (a + moved)))
    → first ≡ min (digits_value 10 (take (a + moved) ds)) (2 ^ 32)
    → front ≡ min (first * 10 ^ (power - moved)) (2 ^ 32)
    → l ≡ front * scale + low → h ≡ front * scale + high
    → IsNear l h (digits_value 10 ds * 10 ^ power * scale) (10 ^ b)
raised_near ds a b power moved scale low high first front l h long some is_moved between is_first is_front
    is_low is_high =
    let front_is = is_front ∙ ap (λ k. min (k * 10 ^ (power - moved)) (2 ^ 32)) is_first in
    near_named _ scale low high _ _ front l h front_is is_low is_high
    (near_raised ds a b power moved scale low high long some is_moved between)
