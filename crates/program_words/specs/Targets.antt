-- Which layer the word of an import names. Our rule, docs/COMMANDS.md, "Import".
use Rattle.std.specs.Prelude.{ℕ, ◌≡◌, ◌+◌, ◌⊎◌, ◌==◌, List, Option, Some, None, drop, position, take}
use Rattle.std.specs.Str.Parse.{IsNumeral, digits_value}

-- where the first colon of a word stands
abbrev pub colon_in : List ℕ → Option ℕ
colon_in word = position (λ byte. byte == 58) word

-- a word without a colon names a layer, with fanout 100 where it is made
abbrev pub IsPlainTarget : List ℕ → List ℕ → ℕ → Type 0
IsPlainTarget word layer fanout = (colon_in word ≡ None) × (layer ≡ word) × (fanout ≡ 100)

-- or a layer stands before the colon, and behind it the fanout, in digits
pub record HasFanout (word layer : List ℕ) (fanout : ℕ) : Type 0 where
  pub at : ℕ
  pub colon : colon_in word ≡ Some at
  pub layer_is : layer ≡ take at word
  pub digits : IsNumeral 10 (drop (at + 1) word)
  pub fanout_is : fanout ≡ digits_value 10 (drop (at + 1) word)

abbrev pub IsTarget : List ℕ → List ℕ → ℕ → Type 0
IsTarget word layer fanout = IsPlainTarget word layer fanout ⊎ HasFanout word layer fanout

-- such a word is said
abbrev pub IsTargetOf : Option (List ℕ) → List ℕ → ℕ → Type 0
IsTargetOf said layer fanout = (word : List ℕ) × (said ≡ Some word) × IsTarget word layer fanout
