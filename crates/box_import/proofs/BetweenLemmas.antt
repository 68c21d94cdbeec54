-- The whole numbers on both sides of a fraction.
use Rattle.std.proofs.Common.{◌≡◌, ℕ, zero, suc, ◌+◌, ◌-◌, ◌*◌, ◌/◌, ◌^◌, ◌<◌, ◌≤◌, List, ◌++◌, length}
use Rattle.std.proofs.Common.{take, drop, get_or, min}
use Rattle.std.proofs.Common.{refl, sym, ap, ◌∙◌, subst, arith, add-one}
use Rattle.std.proofs.Math.Nat.{pow-suc, mul-le-mul_right}
use Rattle.std.specs.Char.{digit_value}
use Rattle.std.specs.Str.Parse.{digits_value}
use Rattle.box_import.specs.Decimals.{IsBetween, IsNear}
use Rattle.box_import.proofs.DigitLemmas.{digits_value-cut, digits_value-from}

-- a tenth of a whole number and a fraction
pub between_tenth : (low high n d t : ℕ) → IsBetween low high n d
    → IsBetween ((t + low) / 10) ((t + high + 9) / 10) (t * d + n) (d * 10)
between_tenth low high n d t h =
    let q = (t + low) / 10 in
    let r = (t + high + 9) / 10 in
    let q_most : q * 10 ≤ t + low = omega arith in
    let q_next : t + low + 1 ≤ q * 10 + 10 = omega arith in
    let r_least : t + high ≤ r * 10 = omega arith in
    let r_next : r * 10 ≤ t + high + 9 = omega arith in
    let a = mul-le-mul_right d q_most in
    let b = mul-le-mul_right d q_next in
    let c = mul-le-mul_right d r_least in
    let e = mul-le-mul_right d r_next in
    let no_more = h.no_more in
    let next_is_more = h.next_is_more in
    let no_less = h.no_less in
    let before = h.one_before_is_less in
    record {
      no_more = omega (arith, a, no_more);
      next_is_more = omega (arith, b, next_is_more);
      no_less = omega (arith, c, no_less);
      one_before_is_less = omega (arith, e, before);
    }

-- the same fraction, with another numerator and denominator
pub between_same : (low high n d m e : ℕ) → n ≡ m → d ≡ e → IsBetween low high n d → IsBetween low high m e
between_same low high n d m e same_n same_d h =
    let P : ℕ → Type 0 = λ k. IsBetween low high k d in
    let Q : ℕ → Type 0 = λ k. IsBetween low high m k in
    subst Q same_d (subst P same_n h)

-- one more digit in front of those that were read
pub between_digit : (ds : List ℕ) (i scale low high digit : ℕ) → i < length ds
    → digit ≡ digit_value (get_or ds i 0)
    → IsBetween low high (digits_value 10 (drop (suc i) ds) * scale) (10 ^ (length ds - suc i))
    → IsBetween ((digit * scale + low) / 10) ((digit * scale + high + 9) / 10)
    (digits_value 10 (drop i ds) * scale) (10 ^ (length ds - i))
between_digit ds i scale low high digit within is h =
    let power = 10 ^ (length ds - suc i) in
    let cut : digits_value 10 (drop i ds) ≡ digit * power + digits_value 10 (drop (suc i) ds)
    = digits_value-from ds i within ∙ ap (λ k. k * power + digits_value 10 (drop (suc i) ds)) (sym is) in
    let scaled = ap (λ k. k * scale) cut in
    let left : length ds - i ≡ suc (length ds - suc i) = omega arith in
    let tens : 10 ^ (length ds - i) ≡ power * 10
    = ap (λ k. 10 ^ k) left ∙ pow-suc 10 (length ds - suc i) in
    between_same _ _ _ _ _ _ (omega (arith, scaled)) (sym tens)
    (between_tenth low high (digits_value 10 (drop (suc i) ds) * scale) power (digit * scale) h)

-- the digits from `at` on are read, down to `from` at most
pub record HasRead (ds : List ℕ) (count from at scale low high : ℕ) : Type 0 where
  pub not_below : from ≤ at
  pub within : at ≤ count
  pub value : IsBetween low high (digits_value 10 (drop at ds) * scale) (10 ^ (count - at))
  pub small : high ≤ scale
  pub ordered : low ≤ high

-- a fraction was divided by ten, so often
pub record HasShrunk (first_low first_high times scale low high : ℕ) : Type 0 where
  pub value : (n d : ℕ) → IsBetween first_low first_high n d → IsBetween low high n (d * 10 ^ times)
  pub small : high ≤ scale
  pub ordered : low ≤ high

-- once more
pub shrunk_more : (first_low first_high times scale low high : ℕ) (tenth_low tenth_high : ℕ)
    → HasShrunk first_low first_high times scale low high
    → tenth_low ≡ (0 * scale + low) / 10 → tenth_high ≡ (0 * scale + high + 9) / 10
    → tenth_high ≤ scale → tenth_low ≤ tenth_high
    → HasShrunk first_low first_high (times + 1) scale tenth_low tenth_high
shrunk_more first_low first_high times scale low high tenth_low tenth_high h is_low is_high small ordered =
    record {
      value = λ n d first.
          let tens : 10 ^ (times + 1) ≡ 10 ^ times * 10 = rw add-one (pow-suc 10 times) in
          let more : d * 10 ^ (times + 1) ≡ d * (10 ^ times * 10) = ap (λ p. d * p) tens in
          let power : d * 10 ^ (times + 1) ≡ d * 10 ^ times * 10 = omega (arith, more) in
          let step = between_tenth low high n (d * 10 ^ times) (0 * scale) (h.value n d first) in
          let here : IsBetween ((0 * scale + low) / 10) ((0 * scale + high + 9) / 10) n (d * 10 ^ (times + 1))
          = between_same _ _ _ _ _ _ (omega arith) (sym power) step in
          let P : ℕ → Type 0 = λ k. IsBetween k ((0 * scale + high + 9) / 10) n (d * 10 ^ (times + 1)) in
          let Q : ℕ → Type 0 = λ k. IsBetween tenth_low k n (d * 10 ^ (times + 1)) in
          subst Q (sym is_high) (subst P (sym is_low) here);
      small = small;
      ordered = ordered;
    }

-- the digits read so far, and the one before them
pub read_more : (ds : List ℕ) (count from place at scale low high digit more_low more_high : ℕ)
    → count ≡ length ds → suc place ≡ at → from < at → HasRead ds count from at scale low high
    → digit ≡ digit_value (get_or ds place 0)
    → more_low ≡ (digit * scale + low) / 10 → more_high ≡ (digit * scale + high + 9) / 10
    → more_high ≤ scale → more_low ≤ more_high
    → HasRead ds count from place scale more_low more_high
read_more ds count from place at scale low high digit more_low more_high all next below h is is_low is_high
    small ordered =
    let within = h.within in
    let Here : ℕ → Type 0
    = λ k. IsBetween low high (digits_value 10 (drop k ds) * scale) (10 ^ (length ds - k)) in
    let All : ℕ → Type 0
    = λ k. IsBetween low high (digits_value 10 (drop at ds) * scale) (10 ^ (k - at)) in
    let here : IsBetween ((digit * scale + low) / 10) ((digit * scale + high + 9) / 10)
    (digits_value 10 (drop place ds) * scale) (10 ^ (length ds - place))
    = between_digit ds place scale low high digit (omega arith) is
    (subst Here (sym next) (subst All all h.value)) in
    let P : ℕ → Type 0
    = λ k. IsBetween k ((digit * scale + high + 9) / 10) (digits_value 10 (drop place ds) * scale)
    (10 ^ (length ds - place)) in
    let Q : ℕ → Type 0
    = λ k. IsBetween more_low k (digits_value 10 (drop place ds) * scale) (10 ^ (length ds - place)) in
    let R : ℕ → Type 0
    = λ k. IsBetween more_low more_high (digits_value 10 (drop place ds) * scale) (10 ^ (k - place)) in
    record {
      not_below = omega arith;
      within = omega arith;
      value = subst R (sym all) (subst Q (sym is_high) (subst P (sym is_low) here));
      small = small;
      ordered = ordered;
    }

-- a number with zeros behind it, and one zero more
pub zeros_more : (number times all next : ℕ) → all ≡ min (number * 10 ^ times) (2 ^ 32)
    → next ≡ min (all * 10) (2 ^ 32) → next ≡ min (number * 10 ^ (times + 1)) (2 ^ 32)
zeros_more number times all next is is_next =
    let tens : 10 ^ (times + 1) ≡ 10 ^ times * 10 = rw add-one (pow-suc 10 times) in
    let more : number * 10 ^ (times + 1) ≡ number * (10 ^ times * 10) = ap (λ p. number * p) tens in
    omega (arith, more)
