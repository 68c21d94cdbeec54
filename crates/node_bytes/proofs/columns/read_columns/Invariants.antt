-- The columns read so far.
use Rattle.std.proofs.Common.{◌≡◌, ℕ, ◌+◌, ◌*◌, ◌<◌, ◌≤◌, length, pos}
use Rattle.block_bytes.specs.Numbers.{signed_at}
use Rattle.node_bytes.specs.Columns.{cell}
use Rattle.node_bytes.proofs.columns.read_columns.Given as goal

abbrev pub invariant-loop-axis : goal.invariant-loop-axis
invariant-loop-axis g l = record {
  size : length l.columns ≡ g.row.D;
  read : (axis place : ℕ) → axis < l.axis → place < l.count
      → cell l.columns axis place ≡ signed_at (l.first + 800 * axis + 4 * place) l.page;
  zeros : (axis place : ℕ) → axis < l.axis → l.count ≤ place → cell l.columns axis place ≡ pos 0;
}
