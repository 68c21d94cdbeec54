-- Corners of boxes, and boxes, at places of a block: what stands where, and which other places a write leaves
-- as they are (our format, docs/FORMAT.md).
use Rattle.std.specs.Prelude.{◌≡◌, ℕ, ◌+◌, ◌*◌, ◌<◌, ◌≤◌, ℤ, List}
use Rattle.block_bytes.specs.Numbers.{number_at, signed_at, IsApart}
use Rattle.box_math.specs.Bounds.{Bounds, each_axis}

-- the corner whose first coordinate stands at a place, and each further one a stride on
unfoldable pub corner_at : ℕ → List ℕ → ℕ → ℕ → List ℤ
corner_at dims block at stride = each_axis dims (λ axis. signed_at (at + stride * axis) block)

-- the box whose lows stand from one place, and whose highs from another
abbrev pub box_at : ℕ → List ℕ → ℕ → ℕ → ℕ → Bounds
box_at dims block low high stride =
    record { low = corner_at dims block low stride; high = corner_at dims block high stride }

-- the n bytes from a place, and a corner's, have none in common
abbrev pub IsClearOfCorner : ℕ → ℕ → ℕ → ℕ → ℕ → Type 0
IsClearOfCorner dims at stride n from = (axis : ℕ) → axis < dims → IsApart n from 4 (at + stride * axis)

-- the n bytes from a place, and a box's, have none in common
pub record IsClearOfBox (dims low high stride n from : ℕ) : Type 0 where
  pub lows : IsClearOfCorner dims low stride n from
  pub highs : IsClearOfCorner dims high stride n from

-- two corners have no byte in common
abbrev pub AreApart : ℕ → ℕ → ℕ → ℕ → Type 0
AreApart dims low high stride = (axis : ℕ) → axis < dims
    → IsClearOfCorner dims high stride 4 (low + stride * axis)

-- each number that lies in such places stays
abbrev pub Keeps : (ℕ → ℕ → Type 0) → List ℕ → List ℕ → Type 0
Keeps IsClear old new = (n at : ℕ) → IsClear n at → number_at n at new ≡ number_at n at old

-- a byte of the corner
abbrev pub IsOfCorner : ℕ → ℕ → ℕ → ℕ → Type 0
IsOfCorner dims at stride k = (axis : ℕ) × (axis < dims) × (at + stride * axis ≤ k)
    × (k < at + stride * axis + 4)
