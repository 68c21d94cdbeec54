-- The numbers, coordinates, boxes and points that words are. Our rule, docs/COMMANDS.md.
use Rattle.std.specs.Prelude.{ℕ, ◌^◌, Bool, ◌&&◌, ◌==◌, nat_lt, nat_le, List, [], ◌∷◌, length, drop}
use Rattle.std.specs.Prelude.{if◌then◌else◌, ℤ, pos, neg_ℤ, slice_index, Option, Some, None, option_map}
use Rattle.std.specs.Prelude.{option_and_then, codes, bytes_eq}
use Rattle.std.specs.List.{list_all}
use Rattle.std.specs.Char.{is_ascii_digit}
use Rattle.std.specs.Str.Parse.{digits_value}
use Rattle.plain_table.specs.declared.boxes.RawBox.{RawBox}
use Rattle.plain_table.specs.declared.boxes.RawBox.TheVariants.{Two, Three}
use Rattle.plain_table.specs.declared.boxes.RawPoint.{RawPoint}
use Rattle.plain_table.specs.declared.boxes.RawPoint.TheVariants as point

-- one decimal digit or more, and nothing else
abbrev pub is_numeral : List ℕ → Bool
is_numeral w = nat_lt 0 (length w) && list_all is_ascii_digit w

-- a number: digits with a value below 2^64
abbrev pub number_in : List ℕ → Option ℕ
number_in w = if is_numeral w && nat_lt (digits_value 10 w) (2 ^ 64) then Some (digits_value 10 w) else None

-- the byte that makes a coordinate negative
abbrev pub minus : ℕ
minus = 45

-- a size after a minus: it is at most 2^31
abbrev pub negative_of : ℕ → Option ℤ
negative_of n = if nat_le n (2 ^ 31) then Some (neg_ℤ (pos n)) else None

-- a size with no sign: it is below 2^31
abbrev pub positive_of : ℕ → Option ℤ
positive_of n = if nat_lt n (2 ^ 31) then Some (pos n) else None

-- a coordinate: a number of 32 bits, which a minus may stand before
abbrev pub coordinate_of : List ℕ → Option ℤ
coordinate_of w =
    if slice_index w 0 == minus then option_and_then negative_of (number_in (drop 1 w))
    else option_and_then positive_of (number_in w)

-- coordinates, one for each word
abbrev pub coordinates_of : List (List ℕ) → Option (List ℤ)
coordinates_of [] = Some []
coordinates_of (w ∷ ws) =
    option_and_then (λ c. option_map (λ cs. c ∷ cs) (coordinates_of ws)) (coordinate_of w)

-- the box of four or six coordinates: all lows, and then all highs
abbrev pub box_from : List ℤ → Option RawBox
box_from (a ∷ b ∷ c ∷ d ∷ []) = Some (Two (a ∷ b ∷ []) (c ∷ d ∷ []))
box_from (a ∷ b ∷ c ∷ d ∷ e ∷ f ∷ []) = Some (Three (a ∷ b ∷ c ∷ []) (d ∷ e ∷ f ∷ []))
box_from cs = None

-- the box that all these words are
abbrev pub box_of : List (List ℕ) → Option RawBox
box_of ws = option_and_then box_from (coordinates_of ws)

-- the point of two or three coordinates
abbrev pub point_from : List ℤ → Option RawPoint
point_from (a ∷ b ∷ []) = Some (point.Two (a ∷ b ∷ []))
point_from (a ∷ b ∷ c ∷ []) = Some (point.Three (a ∷ b ∷ c ∷ []))
point_from cs = None

-- the point that all these words are
abbrev pub point_of : List (List ℕ) → Option RawPoint
point_of ws = option_and_then point_from (coordinates_of ws)

-- ---- a tag behind a box or a point

-- a tag: a number below 2^32
abbrev pub tag_number : List ℕ → Option ℕ
tag_number w = option_and_then (λ n. if nat_lt n (2 ^ 32) then Some n else None) (number_in w)

-- the words before the first `tag`, and those from it on
abbrev pub before_tag : List (List ℕ) → List (List ℕ)
before_tag [] = []
before_tag (w ∷ ws) = if bytes_eq w (codes "tag") then [] else w ∷ before_tag ws

abbrev pub from_tag : List (List ℕ) → List (List ℕ)
from_tag [] = []
from_tag (w ∷ ws) = if bytes_eq w (codes "tag") then w ∷ ws else from_tag ws

-- the tag that words from `tag` on give: none where there are none, and else that of `tag` and one number
abbrev pub tag_behind : List (List ℕ) → Option (Option ℕ)
tag_behind [] = Some None
tag_behind (w ∷ number ∷ []) = option_map (λ t. Some t) (tag_number number)
tag_behind ws = None

-- what the words before `tag` are, with the tag that may stand behind
abbrev pub and_tag : {X : Type 0} → (List (List ℕ) → Option X) → List (List ℕ) → Option (X × Option ℕ)
and_tag read ws =
    option_and_then (λ x. option_map (λ t. (x, t)) (tag_behind (from_tag ws))) (read (before_tag ws))
