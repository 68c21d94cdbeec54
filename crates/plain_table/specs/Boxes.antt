-- The boxes and points that commands give, and the boxes that answers show, as lists of coordinates. Our
-- rule, docs/COMMANDS.md.
use Rattle.std.specs.Prelude.{ℕ, ℤ, Bool, ◌&&◌, List}
use Rattle.std.specs.Ordering.{int_eq}
use lib.Pointwise.{pointwise}
use Rattle.box_math.specs.Bounds.{Bounds, ordered_test}
use Rattle.plain_table.specs.declared.boxes.RawBox.{RawBox}
use Rattle.plain_table.specs.declared.boxes.RawBox.TheVariants as raw
use Rattle.plain_table.specs.declared.boxes.RawPoint.{RawPoint}
use Rattle.plain_table.specs.declared.boxes.RawPoint.TheVariants as point
use Rattle.plain_table.specs.declared.boxes.AnyBox.{AnyBox}
use Rattle.plain_table.specs.declared.boxes.AnyBox.TheVariants as any

-- how many axes a box has
abbrev pub dims_of : RawBox → ℕ
dims_of (raw.Two low high) = 2
dims_of (raw.Three low high) = 3

-- the lows and highs as they were given
abbrev pub given_bounds : RawBox → Bounds
given_bounds (raw.Two low high) = record { low = low; high = high }
given_bounds (raw.Three low high) = record { low = low; high = high }

-- whether each low is at most its high
abbrev pub is_ordered : ℕ → Bounds → Bool
is_ordered dims b = ordered_test dims b.low b.high

-- whether two boxes have the same lows and the same highs
abbrev pub same_bounds : Bounds → Bounds → Bool
same_bounds a b = pointwise int_eq a.low b.low && pointwise int_eq a.high b.high

-- how many axes a point has
abbrev pub point_dims : RawPoint → ℕ
point_dims (point.Two p) = 2
point_dims (point.Three p) = 3

-- its coordinates
abbrev pub given_point : RawPoint → List ℤ
given_point (point.Two p) = p
given_point (point.Three p) = p

-- a box is its lows and highs, whatever its dimension
abbrev pub shown_bounds : AnyBox → Bounds
shown_bounds (any.Two b) = b
shown_bounds (any.Three b) = b
