-- Boxes in columns, and masks of those that pass a test: bit k of a mask is the answer for the box in place
-- k.
use Rattle.std.specs.Prelude.{ℕ, ℤ, Bool, ◌==◌, List, [], map, slice_index_or}
use Rattle.std.specs.Int.{bit_at}
use Rattle.std.specs.List.{range_with_len}
use Rattle.box_math.specs.Bounds.{Bounds, each_axis, on_axis}
use lib.Lanes.{mask_l}

-- the box in a place of columns: a column of lows and one of highs for each axis
-- (our rule, docs/FORMAT.md, "Node pages")
abbrev pub box_in_columns : ℕ → List (List ℤ) → List (List ℤ) → ℕ → Bounds
box_in_columns dims lows highs place = record {
  low = each_axis dims (λ axis. on_axis (slice_index_or lows axis []) place);
  high = each_axis dims (λ axis. on_axis (slice_index_or highs axis []) place);
}

-- whether bit k of the mask is set
abbrev pub has_bit : ℕ → ℕ → Bool
has_bit mask k = bit_at mask k == 1

-- the mask of the answers of so many places from one on: the first is the lowest bit
unfoldable pub mask_from : (ℕ → Bool) → ℕ → ℕ → ℕ
mask_from test place count = mask_l (map test (range_with_len place count))
