-- The coordinates read so far.
use Rattle.std.proofs.Common.{◌≡◌, ℕ, ◌+◌, ◌*◌, ◌<◌, length}
use Rattle.box_math.specs.Bounds.{on_axis}
use Rattle.block_bytes.specs.Numbers.{signed_at}
use Rattle.box_bytes.proofs.corners.read_corner.Given as goal

abbrev pub invariant-loop-axis : goal.invariant-loop-axis
invariant-loop-axis g l = (length l.corner ≡ g.row.D)
    × ((k : ℕ) → k < l.axis → on_axis l.corner k ≡ signed_at (l.at + l.stride * k) l.block)
