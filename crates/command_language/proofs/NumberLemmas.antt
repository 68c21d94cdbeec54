-- The number that digits are, read from the front.
use Rattle.std.proofs.Common.{◌≡◌, ℕ, suc, ◌+◌, ◌*◌, ◌^◌, ◌<◌, ◌≤◌, ◌&&◌, Bool, true, false, cond, ltb, List}
use Rattle.std.proofs.Common.{[], ◌∷◌, length, drop, get_or, Some, None, refl, sym, ap, ◌∙◌, arith}
use Rattle.std.specs.Char.{is_ascii_digit, digit_value}
use Rattle.std.specs.List.{list_all}
use Rattle.std.specs.Str.Parse.{digits_value, digits_value_after}
use Rattle.std.proofs.lemmas.Bool.Decides.{nat_tests}
use Rattle.std.proofs.lemmas.List.{drop_all}
use Rattle.std.proofs.Math.Nat.{pow-le-pow_right}
use Rattle.std.proofs.Math.Seq.{drop-cons}
use Rattle.command_language.specs.Numbers.{is_numeral, number_in}

-- digits that follow a number make it no less
pub digits_value_after-ge : (n : ℕ) (cs : List ℕ) → n ≤ digits_value_after 10 n cs
digits_value_after-ge n [] = omega arith
digits_value_after-ge n (c ∷ cs) = let h = digits_value_after-ge (n * 10 + digit_value c) cs in
    omega (arith, h)

unless : (a b : Bool) (v : ℕ) → b ≡ false → None ≡ cond (a && b) (Some v) None
unless true b v e = rw e refl
unless false b v e = refl

-- a word, of which the digits so far have this value
pub record IsReadTo (word : List ℕ) (i value : ℕ) : Type 0 where
  pub value_is : digits_value_after 10 value (drop i word) ≡ digits_value 10 word
  pub fits : value < 2 ^ 64
  pub digits_are : list_all is_ascii_digit (drop i word) ≡ list_all is_ascii_digit word

module _ (word : List ℕ) (i value byte : ℕ) (below : i < length word) (is : byte ≡ get_or word i 0)
    (so_far : IsReadTo word i value) where
  here : drop i word ≡ byte ∷ drop (suc i) word
  here = drop-cons word i 0 below ∙ ap (λ b. b ∷ drop (suc i) word) (sym is)

  value_here : digits_value_after 10 (value * 10 + digit_value byte) (drop (suc i) word) ≡ digits_value 10
      word
  value_here = sym (ap (digits_value_after 10 value) here) ∙ so_far.value_is

  -- a value that is too large
  pub too_large : 2 ^ 64 ≤ value * 10 + digit_value byte → None ≡ number_in word
  too_large h =
      let ge = digits_value_after-ge (value * 10 + digit_value byte) (drop (suc i) word) in
      let e : 2 ^ 64 ≤ digits_value 10 word = omega (arith, ge, value_here) in
      let t : ltb (digits_value 10 word) (2 ^ 64) ≡ false = grind (arith, nat_tests) in
      unless (is_numeral word) (ltb (digits_value 10 word) (2 ^ 64)) (digits_value 10 word) t

-- the whole word
pub all_read : (word : List ℕ) (i value : ℕ) → 0 < length word → length word ≤ i → IsReadTo word i value
    → Some value ≡ number_in word
all_read word i value some all so_far =
    let none : drop i word ≡ [] = drop_all i word all in
    let v : value ≡ digits_value 10 word = sym (ap (digits_value_after 10 value) none) ∙ so_far.value_is in
    let fits = so_far.fits in
    let d : true ≡ list_all is_ascii_digit word = sym (ap (list_all is_ascii_digit) none)
    ∙ so_far.digits_are in
    grind (arith, nat_tests)

-- a word of at most nineteen bytes, of which the digits so far have this value
pub record IsShortTo (word : List ℕ) (i value : ℕ) : Type 0 where
  pub value_is : digits_value_after 10 value (drop i word) ≡ digits_value 10 word
  pub below : value < 10 ^ i
  pub digits_are : list_all is_ascii_digit (drop i word) ≡ list_all is_ascii_digit word

-- at most so many digits have a value below that power of ten
short_of : (i most value : ℕ) → i ≤ most → value < 10 ^ i → value < 10 ^ most
short_of i most value few below =
    let h : 10 ^ i ≤ 10 ^ most = pow-le-pow_right {n = 10} (omega arith) {i = i} {j = most} few in
    omega (arith, h, below)

-- one digit more than eighteen fits in 64 bits
pub one_more_fits : (i value digit : ℕ) → i < 19 → value < 10 ^ i → digit ≤ 9 → value * 10 + digit < 2 ^ 64
one_more_fits i value digit few below is =
    let h = short_of i 18 value (omega (arith, few)) below in omega (arith, h, is)

-- a decimal digit is at most nine
pub digit_at_most_nine : (byte : ℕ) → is_ascii_digit byte ≡ true → digit_value byte ≤ 9
digit_at_most_nine byte is = grind (arith, nat_tests)
