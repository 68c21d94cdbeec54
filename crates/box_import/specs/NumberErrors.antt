-- Why a text is no coordinate.
use Rattle.box_import.specs.declared.number.NumberError.{NumberError}
use Rattle.box_import.specs.declared.number.NumberError.TheVariants.{NoDecimal, OutOfRange, NoWhole}

-- a fact for each refusal of a number
abbrev pub MatchError : NumberError → Type 0 → Type 0 → Type 0 → Type 0
MatchError NoDecimal none out fraction = none
MatchError OutOfRange none out fraction = out
MatchError NoWhole none out fraction = fraction
