-- The coordinates of a corner, written one after the other.
use Rattle.std.proofs.Common.{◌≡◌, ℕ, ◌+◌, ◌*◌, ◌<◌, ◌≤◌, ℤ, FitsSigned, w32, List, length, sym, ◌∙◌, arith}
use Rattle.std.proofs.Common.{below_more, inl}
use Rattle.box_math.specs.Bounds.{on_axis}
use Rattle.block_bytes.specs.Numbers.{signed_at, put_signed}
use Rattle.block_bytes.specs.Laws.{signed_at-put, signed_at-same, number_at-put_signed_other}
use Rattle.box_bytes.specs.Corners.{IsClearOfCorner, Keeps}
use Rattle.box_bytes.specs.Laws.{coordinate-lt}

-- the coordinate just written, and those before it
pub corner_more : (axis at stride : ℕ) (z : ℤ) (block : List ℕ) (corner : List ℤ) → 4 ≤ stride
    → at + stride * axis + 4 ≤ length block → FitsSigned w32 z → on_axis corner axis ≡ z
    → ((k : ℕ) → k < axis → signed_at (at + stride * k) block ≡ on_axis corner k)
    → (k : ℕ) → k < axis + 1
    → signed_at (at + stride * k) (put_signed (at + stride * axis) z block) ≡ on_axis corner k
corner_more axis at stride z block corner wide size fits is below =
    below_more
    (λ k. signed_at (at + stride * k) (put_signed (at + stride * axis) z block) ≡ on_axis corner k) axis
    (λ k lt. signed_at-same (at + stride * k) (put_signed (at + stride * axis) z block) block
    (number_at-put_signed_other 4 (at + stride * k) (at + stride * axis) z block size
    (inl (omega (arith, coordinate-lt stride k axis wide lt)))) ∙ below k lt)
    (signed_at-put (at + stride * axis) z block size fits ∙ sym is)

-- a further coordinate changes no other place
pub keeps_more : (axis at stride : ℕ) (z : ℤ) (old block : List ℕ) → at + stride * axis + 4 ≤ length block
    → Keeps (IsClearOfCorner axis at stride) old block
    → Keeps (IsClearOfCorner (axis + 1) at stride) old (put_signed (at + stride * axis) z block)
keeps_more axis at stride z old block size before = λ n from clear.
    number_at-put_signed_other n from (at + stride * axis) z block size (clear axis (omega arith))
    ∙ before n from (λ k lt. clear k (omega arith))
