-- The objects of rows of CSV, as their fields say them. Our rule, docs/COMMANDS.md.
use Rattle.std.specs.Prelude.{◌≡◌, ℕ, ◌<◌, ◌^◌, ℤ, pos, ◌≤ℤ◌, ◌⊎◌, List, [], Some, IsTrue, MatchOption}
use Rattle.std.specs.Prelude.{slice_index, slice_index_or}
use Rattle.std.specs.Str.{IsTrimAscii}
use Rattle.std.specs.Str.Parse.{IsNumeral, digits_value}
use Rattle.csv.specs.Records.{field_at}
use Rattle.plain_table.specs.declared.boxes.RawBox.{RawBox}
use Rattle.plain_table.specs.declared.boxes.RawBox.TheVariants as raw
use Rattle.box_import.specs.declared.places.BoxPlaces.{BoxPlaces}
use Rattle.box_import.specs.declared.places.BoxPlaces.TheVariants as at
use Rattle.box_import.specs.declared.places.Places.{Places}
use Rattle.box_import.specs.Decimals.{is_decimal, IsRoundedOutward}

-- this text stands in a field, with blanks around it or none
pub record IsFieldText (row : List (List ℕ)) (place : ℕ) (text : List ℕ) : Type 0 where
  pub field : List ℕ
  pub there : field_at row place ≡ Some field
  pub trimmed : IsTrimAscii field text

-- the decimal in a field, times a scale, rounded down to low and up to high
pub record IsCoordinateOf (row : List (List ℕ)) (place scale : ℕ) (low high : ℤ) : Type 0 where
  pub text : List ℕ
  pub there : IsFieldText row place text
  pub decimal : IsTrue (is_decimal text)
  pub rounded : IsRoundedOutward low high text scale
  pub ordered : low ≤ℤ high

-- a range from the coordinate of one field, rounded down, to that of another, rounded up
pub record IsSpanOf (row : List (List ℕ)) (low_place high_place scale : ℕ) (low high : ℤ) : Type 0 where
  pub low_up : ℤ
  pub high_down : ℤ
  pub low_is : IsCoordinateOf row low_place scale low low_up
  pub high_is : IsCoordinateOf row high_place scale high_down high
  pub ordered : low ≤ℤ high

-- the range of an axis
abbrev pub IsAxisOf : List (List ℕ) → List ℕ → List ℕ → ℕ → List ℤ → List ℤ → ℕ → Type 0
IsAxisOf row low_places high_places scale lows highs axis =
    IsSpanOf row (slice_index low_places axis) (slice_index high_places axis) scale
    (slice_index_or lows axis (pos 0)) (slice_index_or highs axis (pos 0))

-- a box whose range on each axis is that of two fields
abbrev pub IsBoxOf : List (List ℕ) → BoxPlaces → ℕ → RawBox → Type 0
IsBoxOf row (at.Two a b) scale (raw.Two l h) = IsAxisOf row a b scale l h 0 × IsAxisOf row a b scale l h 1
IsBoxOf row (at.Three a b) scale (raw.Three l h) =
    IsAxisOf row a b scale l h 0 × IsAxisOf row a b scale l h 1 × IsAxisOf row a b scale l h 2
IsBoxOf row places scale bounds = ⊥

-- the number that the digits in a field write
pub record IsNumberAt (row : List (List ℕ)) (place number : ℕ) : Type 0 where
  pub text : List ℕ
  pub there : IsFieldText row place text
  pub numeral : IsNumeral 10 text
  pub value : number ≡ digits_value 10 text

-- the tag that a field writes: 0 where it is empty
abbrev pub IsTagAt : List (List ℕ) → ℕ → ℕ → Type 0
IsTagAt row place tag = (IsFieldText row place [] × (tag ≡ 0)) ⊎ IsNumberAt row place tag

-- what a row says of an object: its box; its identifier, the number of the row where no column has one; and
-- its tag, 0 where no column has one
pub record IsObjectOf (row : List (List ℕ)) (places : Places) (scale count id : ℕ) (bounds : RawBox) (tag : ℕ)
    : Type 0 where
  pub id_is : MatchOption places.id (id ≡ count) (λ place. IsNumberAt row place id)
  pub bounds_are : IsBoxOf row places.bounds scale bounds
  pub tag_is : MatchOption places.tag (tag ≡ 0) (λ place. IsTagAt row place tag)
