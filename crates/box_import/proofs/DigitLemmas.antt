-- The number that digits write, cut in two.
use Rattle.std.proofs.Common.{◌≡◌, ℕ, zero, suc, ◌+◌, ◌-◌, ◌*◌, ◌^◌, ◌%◌, ◌<◌, ◌≤◌, List, [], ◌∷◌, ◌++◌}
use Rattle.std.proofs.Common.{length, take, drop, get_or}
use Rattle.std.proofs.Common.{refl, sym, ap, ◌∙◌, arith, length-drop, take-append-drop}
use Rattle.std.proofs.Math.Nat.{pow-suc}
use Rattle.std.proofs.Math.Seq.{drop-cons}
use Rattle.std.proofs.lemmas.Str.{digit_value_digit}
use Rattle.std.proofs.lemmas.Str.Parse.{digit_from_value}
use Rattle.std.specs.Char.{digit_value}
use Rattle.std.specs.Str.Parse.{AllDigits, digits_value, digits_value_after}

-- a number with digits behind it
pub digits_value_after-is : (n : ℕ) (cs : List ℕ)
    → digits_value_after 10 n cs ≡ n * 10 ^ length cs + digits_value 10 cs
digits_value_after-is n [] = omega arith
digits_value_after-is n (c ∷ cs) =
    let digit = digit_value c in
    let here : digits_value_after 10 n (c ∷ cs) ≡ (n * 10 + digit) * 10 ^ length cs + digits_value 10 cs
    = digits_value_after-is (n * 10 + digit) cs in
    let alone : digits_value 10 (c ∷ cs) ≡ (0 * 10 + digit) * 10 ^ length cs + digits_value 10 cs
    = digits_value_after-is (0 * 10 + digit) cs in
    let power : n * 10 ^ length (c ∷ cs) ≡ n * (10 ^ length cs * 10)
    = ap (λ p. n * p) (pow-suc 10 (length cs)) in
    omega (arith, here, alone, power)

pub digits_value_after-append : (n : ℕ) (xs ys : List ℕ)
    → digits_value_after 10 n (xs ++ ys) ≡ digits_value_after 10 (digits_value_after 10 n xs) ys
digits_value_after-append n [] ys = refl
digits_value_after-append n (x ∷ xs) ys = digits_value_after-append (n * 10 + digit_value x) xs ys

-- digits cut in two: the first stand so many places higher as there are others
pub digits_value-cut : (ds : List ℕ) (k : ℕ) → k ≤ length ds
    → digits_value 10 ds ≡ digits_value 10 (take k ds) * 10 ^ (length ds - k) + digits_value 10 (drop k ds)
digits_value-cut ds k within =
    let whole : digits_value 10 (take k ds ++ drop k ds) ≡ digits_value 10 ds
    = ap (digits_value 10) (take-append-drop k ds) in
    let cut = digits_value_after-append 0 (take k ds) (drop k ds) in
    let value = digits_value_after-is (digits_value 10 (take k ds)) (drop k ds) in
    let long : length (drop k ds) ≡ length ds - k = length-drop k ds in
    let power : 10 ^ length (drop k ds) ≡ 10 ^ (length ds - k) = ap (λ n. 10 ^ n) long in
    let e : digits_value 10 (take k ds) * 10 ^ length (drop k ds)
    ≡ digits_value 10 (take k ds) * 10 ^ (length ds - k)
    = ap (λ n. digits_value 10 (take k ds) * n) power in
    omega (arith, whole, cut, value, e)

-- the digits from a place on: the first of them stands so many places higher as there are others
pub digits_value-from : (ds : List ℕ) (i : ℕ) → i < length ds
    → digits_value 10 (drop i ds)
    ≡ digit_value (get_or ds i 0) * 10 ^ (length ds - suc i) + digits_value 10 (drop (suc i) ds)
digits_value-from ds i within =
    let first : digits_value 10 (drop i ds) ≡ digits_value 10 (get_or ds i 0 ∷ drop (suc i) ds)
    = ap (digits_value 10) (drop-cons ds i 0 within) in
    let value = digits_value_after-is (0 * 10 + digit_value (get_or ds i 0)) (drop (suc i) ds) in
    let long : length (drop (suc i) ds) ≡ length ds - suc i = length-drop (suc i) ds in
    let e : digit_value (get_or ds i 0) * 10 ^ length (drop (suc i) ds)
    ≡ digit_value (get_or ds i 0) * 10 ^ (length ds - suc i)
    = ap (λ n. digit_value (get_or ds i 0) * 10 ^ n) long in
    omega (arith, first, value, e)

-- each of them is below ten
pub digit_small : (ds : List ℕ) (i : ℕ) → AllDigits 10 ds → i < length ds → digit_value (get_or ds i 0) < 10
digit_small [] i h within = absurd (omega arith)
digit_small (d ∷ ds) zero h within = h.0
digit_small (d ∷ ds) (suc i) h within = digit_small ds i h.1 (omega arith)

-- what is left of a digit's byte without the byte of `0`
pub digit_worth : (ds : List ℕ) (i x : ℕ) → AllDigits 10 ds → i < length ds → x ≡ get_or ds i 0
    → (x + 208) % 256 ≡ digit_value (get_or ds i 0)
digit_worth ds i x h within is =
    let small = digit_small ds i h within in
    let range = digit_from_value (get_or ds i 0) small in
    let worth = digit_value_digit (get_or ds i 0) range in
    omega (arith, small, worth)

-- digits and more of them
pub all_digits-append : (xs ys : List ℕ) → AllDigits 10 xs → AllDigits 10 ys → AllDigits 10 (xs ++ ys)
all_digits-append [] ys h k = k
all_digits-append (x ∷ xs) ys h k = (h.0, all_digits-append xs ys h.1 k)
