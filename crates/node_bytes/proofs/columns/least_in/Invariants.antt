-- The axes so far.
use Rattle.std.proofs.Common.{◌≡◌, ℕ, ◌+◌, ◌*◌, ◌<◌, length}
use Rattle.block_bytes.specs.Numbers.{signed_at}
use Rattle.box_math.specs.Bounds.{on_axis}
use Rattle.node_bytes.specs.Columns.{IsGreatestOf, IsLeastOf}
use Rattle.node_bytes.proofs.columns.least_in.Given as goal

abbrev pub invariant-loop-axis : goal.invariant-loop-axis
invariant-loop-axis g l = record {
  low_size : length l.low ≡ g.row.D;
  high_size : length l.high ≡ g.row.D;
  lows : (axis : ℕ) → axis < l.axis
      → IsLeastOf (λ k. signed_at (16 + 800 * axis + 4 * l.from + 4 * k) l.page) l.count (on_axis l.low axis);
  highs : (axis : ℕ) → axis < l.axis
      → IsGreatestOf (λ k. signed_at (16 + 800 * axis + 400 + 4 * l.from + 4 * k) l.page) l.count (on_axis l.high axis);
}
