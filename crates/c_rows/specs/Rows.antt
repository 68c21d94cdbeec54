-- Rows of answers, and objects of a load, as C has them. Our rule, docs/LIBRARY.md.
use Rattle.std.specs.Prelude.{ℕ, ℤ, pos, List, [], ◌∷◌, ◌/◌, ◌%◌, ◌^◌, ◌==◌, if◌then◌else◌, take}
use Rattle.plain_table.specs.Boxes.{shown_bounds}
use Rattle.plain_table.specs.declared.boxes.AnyBox.{AnyBox}
use Rattle.plain_table.specs.declared.boxes.AnyBox.TheVariants as any
use Rattle.plain_table.specs.declared.boxes.RawBox.{RawBox}
use Rattle.plain_table.specs.declared.boxes.RawBox.TheVariants as raw
use Rattle.c_rows.specs.declared.rows.Row.{Row}
use Rattle.c_rows.specs.declared.rows.Near.{Near}
use Rattle.c_rows.specs.declared.rows.Pair.{Pair}

-- the numbers of a corner, with a 0 after those of two axes
abbrev pub filled : List ℤ → List ℤ
filled (x ∷ y ∷ []) = x ∷ y ∷ pos 0 ∷ []
filled xs = xs

-- how many axes a box has
abbrev pub axes_of : AnyBox → ℕ
axes_of (any.Two b) = 2
axes_of (any.Three b) = 3

-- the row of an object: its identifier, its box and its tag
abbrev pub row_of : ℕ × AnyBox × ℕ → Row
row_of object = record {
  id = object.0;
  low = filled (shown_bounds object.1).low;
  high = filled (shown_bounds object.1).high;
  tag = object.2;
  axes = axes_of object.1;
}

-- the identifier of an object
abbrev pub id_of : ℕ × AnyBox × ℕ → ℕ
id_of object = object.0

-- the row of an object with its squared distance
abbrev pub near_of : ℕ × ℕ → Near
near_of near = record { id = near.0; distance = near.1 % (2 ^ 64); distance_high = near.1 / (2 ^ 64) }

-- the row of a pair
abbrev pub pair_of : ℕ × ℕ → Pair
pair_of pair = record { first = pair.0; second = pair.1 }

-- the object that a row gives to a layer of so many axes, for a load
abbrev pub object_in : ℕ → Row → ℕ × RawBox × ℕ
object_in axes row = (
  row.id,
  if axes == 2 then raw.Two (take 2 row.low) (take 2 row.high) else raw.Three row.low row.high,
  row.tag,
)
