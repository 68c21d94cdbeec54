-- Decimal numbers as texts write them, times a scale, and the whole numbers beside them. Our rule,
-- docs/COMMANDS.md.
use Rattle.std.specs.Prelude.{ℕ, ◌+◌, ◌*◌, ◌^◌, ◌<◌, ◌≤◌, Bool, ◌&&◌, ◌==◌, nat_le, ℤ, pos, negsuc, ◌+ℤ◌}
use Rattle.std.specs.Prelude.{◌*ℤ◌}
use Rattle.std.specs.Prelude.{◌≤ℤ◌, ◌<ℤ◌, ◌⊎◌, List, length, drop, slice_index}
use Rattle.std.specs.Float.Parse.{sign_len}
use Rattle.fast_float.specs.Text.{Parts, scan, minus, has_digits, digits_of, tens_up, tens_down, with_sign}

-- whether a minus stands first
abbrev pub is_negative : List ℕ → Bool
is_negative text = slice_index text 0 == minus

-- the text behind its sign, if it has one
abbrev pub unsigned : List ℕ → List ℕ
unsigned text = drop (sign_len text) text

-- the longest numeral behind the sign, in its parts: `12.5e-3` has the whole digits `12`, the fraction `5`
-- and the exponent `3`, which is negative
abbrev pub numeral : List ℕ → Parts
numeral text = scan (unsigned text)

-- a decimal: a sign or none, and behind it a numeral and no more, of one digit or more, and of three digits
-- of exponent at most
abbrev pub is_decimal : List ℕ → Bool
is_decimal text =
    has_digits (numeral text)
    && (numeral text).len == length (unsigned text)
    && nat_le (length (numeral text).exponent) 3

-- The value of a decimal, times a scale, is this fraction: its digits, whole and fraction in a row, times
-- ten as often as a positive exponent says, over ten as often as the fraction has digits and a negative
-- exponent says.
abbrev pub numerator : List ℕ → ℕ → ℤ
numerator text scale =
    with_sign (is_negative text) (digits_of (numeral text) * 10 ^ tens_up (numeral text) * scale)

abbrev pub denominator : List ℕ → ℕ
denominator text = 10 ^ tens_down (numeral text)

-- low is the greatest whole number that is no more than a fraction n / d
pub record IsRoundedDown (low n : ℤ) (d : ℕ) : Type 0 where
  pub no_more : (low *ℤ pos d) ≤ℤ n
  pub next_is_more : n <ℤ (low *ℤ pos d +ℤ pos d)

-- high is the least whole number that is no less than a fraction n / d
pub record IsRoundedUp (high n : ℤ) (d : ℕ) : Type 0 where
  pub no_less : n ≤ℤ (high *ℤ pos d)
  pub one_before_is_less : (high *ℤ pos d) <ℤ (n +ℤ pos d)

-- low and high are the nearest whole numbers below and above a decimal times a scale
pub record IsRoundedOutward (low high : ℤ) (text : List ℕ) (scale : ℕ) : Type 0 where
  pub down : IsRoundedDown low (numerator text scale) (denominator text)
  pub up : IsRoundedUp high (numerator text scale) (denominator text)

-- a decimal times a scale is no whole number: the nearest below it and the nearest above are two
pub record IsFraction (text : List ℕ) (scale : ℕ) : Type 0 where
  pub low : ℤ
  pub high : ℤ
  pub beside : IsRoundedOutward low high text scale
  pub apart : low <ℤ high

-- a decimal times a scale is less than any coordinate, or more than any
abbrev pub IsOutOfRange : List ℕ → ℕ → Type 0
IsOutOfRange text scale =
    (numerator text scale <ℤ (negsuc 2147483647 *ℤ pos (denominator text)))
    ⊎ ((pos 2147483647 *ℤ pos (denominator text)) <ℤ numerator text scale)

-- ---- sizes, of which the sign is not looked at

-- low and high are the nearest whole numbers below and above the fraction n / d
pub record IsBetween (low high n d : ℕ) : Type 0 where
  pub no_more : low * d ≤ n
  pub next_is_more : n < low * d + d
  pub no_less : n ≤ high * d
  pub one_before_is_less : high * d < n + d

-- the same, of sizes below 2^32. A larger size may be told as any number of 2^32 or more
pub record IsNear (low high n d : ℕ) : Type 0 where
  pub near : low < 2 ^ 32 → IsBetween low high n d
  pub far : 2 ^ 32 ≤ low → 2 ^ 32 * d ≤ n
