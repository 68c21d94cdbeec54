-- The coordinates written so far.
use Rattle.std.proofs.Common.{◌≡◌, ℕ, ◌+◌, ◌*◌, ◌<◌, length}
use Rattle.box_math.specs.Bounds.{on_axis}
use Rattle.block_bytes.specs.Numbers.{signed_at}
use Rattle.box_bytes.specs.Corners.{IsClearOfCorner, Keeps}
use Rattle.box_bytes.proofs.corners.write_corner.Given as goal

abbrev pub invariant-loop-axis : goal.invariant-loop-axis
invariant-loop-axis g l = record {
  long : length l.block ≡ 4096;
  written : (k : ℕ) → k < l.axis → signed_at (l.at + l.stride * k) l.block ≡ on_axis l.corner k;
  others : Keeps (IsClearOfCorner l.axis l.at l.stride) l.initial.block l.block;
}
