-- The numbers read so far, and zeros after them.
use Rattle.std.proofs.Common.{◌≡◌, ℕ, ◌+◌, ◌*◌, ◌<◌, ◌≤◌, length, pos}
use Rattle.block_bytes.specs.Numbers.{signed_at}
use Rattle.box_math.specs.Bounds.{on_axis}
use Rattle.node_bytes.proofs.columns.read_column.Given as goal

abbrev pub invariant-loop-place : goal.invariant-loop-place
invariant-loop-place l = record {
  size : length l.column ≡ 100;
  read : (k : ℕ) → k < l.place → on_axis l.column k ≡ signed_at (l.first + 4 * k) l.page;
  zeros : (k : ℕ) → l.place ≤ k → on_axis l.column k ≡ pos 0;
}
