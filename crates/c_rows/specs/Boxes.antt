-- Boxes, points and queries of numbers in a row, as C gives them. Our rule, docs/LIBRARY.md.
use Rattle.std.specs.Prelude.{ℕ, ℤ, List, [], ◌∷◌, Option, None, Some, ◌==◌, if◌then◌else◌}
use Rattle.plain_table.specs.declared.boxes.RawBox.{RawBox}
use Rattle.plain_table.specs.declared.boxes.RawBox.TheVariants as raw
use Rattle.plain_table.specs.declared.boxes.RawPoint.{RawPoint}
use Rattle.plain_table.specs.declared.boxes.RawPoint.TheVariants as point
use Rattle.plain_table.specs.declared.queries.RawQuery.{RawQuery}
use Rattle.plain_table.specs.declared.queries.RawQuery.TheVariants.{Window, Inside, Around, Point}

-- the lows and then the highs of two axes or of three
abbrev pub raw_box : List ℤ → Option RawBox
raw_box (a ∷ b ∷ c ∷ d ∷ []) = Some (raw.Two (a ∷ b ∷ []) (c ∷ d ∷ []))
raw_box (a ∷ b ∷ c ∷ d ∷ e ∷ f ∷ []) = Some (raw.Three (a ∷ b ∷ c ∷ []) (d ∷ e ∷ f ∷ []))
raw_box numbers = None

-- a number for each axis
abbrev pub raw_point : List ℤ → Option RawPoint
raw_point (x ∷ y ∷ []) = Some (point.Two (x ∷ y ∷ []))
raw_point (x ∷ y ∷ z ∷ []) = Some (point.Three (x ∷ y ∷ z ∷ []))
raw_point numbers = None

-- the query of a box: a window (0), within it (1), or around it (2)
abbrev pub box_query : ℕ → RawBox → Option RawQuery
box_query kind bounds =
    if kind == 0 then Some (Window bounds) else if kind == 1 then Some (Inside bounds) else if kind == 2
    then Some (Around bounds) else None

-- what is made of a value, if there is one
abbrev pub and_then : {T U : Type 0} → Option T → (T → Option U) → Option U
and_then None next = None
and_then (Some x) next = next x

-- a query by the number of its kind, of which 3 is that of a point
abbrev pub raw_query : ℕ → List ℤ → Option RawQuery
raw_query kind numbers =
    if kind == 3 then and_then (raw_point numbers) (λ p. Some (Point p)) else and_then (raw_box numbers)
    (box_query kind)
