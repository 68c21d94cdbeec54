-- Columns of coordinates: a list for each axis, in which each point has its coordinate in a place (our
-- format, docs/FORMAT.md, "Node pages").
use Rattle.std.specs.Prelude.{◌≡◌, ℕ, ◌<◌, ◌≤◌, ℤ, ◌≤ℤ◌, pos, List, [], length, slice_index_or}
use Rattle.box_math.specs.Bounds.{on_axis}

-- the coordinate in a place of the column of an axis
abbrev pub cell : List (List ℤ) → ℕ → ℕ → ℤ
cell columns axis place = on_axis (slice_index_or columns axis []) place

-- the columns of some points: for each axis their coordinates, each in the place of its point, and zeros
-- after them
pub record AreColumns (dims : ℕ) (points columns : List (List ℤ)) : Type 0 where
  pub each : (axis place : ℕ) → axis < dims → place < length points
      → cell columns axis place ≡ on_axis (slice_index_or points place []) axis
  pub behind : (axis place : ℕ) → axis < dims → length points ≤ place → cell columns axis place ≡ pos 0

-- the number is one of the first n, and none of them is less
pub record IsLeastOf (numbers : ℕ → ℤ) (n : ℕ) (least : ℤ) : Type 0 where
  pub at : ℕ
  pub within : at < n
  pub is : least ≡ numbers at
  pub each : (k : ℕ) → k < n → least ≤ℤ numbers k

-- it is one of them, and none is greater
pub record IsGreatestOf (numbers : ℕ → ℤ) (n : ℕ) (greatest : ℤ) : Type 0 where
  pub at : ℕ
  pub within : at < n
  pub is : greatest ≡ numbers at
  pub each : (k : ℕ) → k < n → numbers k ≤ℤ greatest
