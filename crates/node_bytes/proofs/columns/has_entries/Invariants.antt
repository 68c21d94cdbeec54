-- The axes compared so far.
use Rattle.std.proofs.Common.{ℕ, ◌+◌, ◌*◌, ◌<◌, ◌≤ℤ◌}
use Rattle.block_bytes.specs.Numbers.{signed_at}
use Rattle.node_bytes.proofs.columns.has_entries.Given as goal

abbrev pub invariant-loop-axis : goal.invariant-loop-axis
invariant-loop-axis g l = (axis k : ℕ) → axis < l.axis → k < l.count
    → signed_at (16 + 800 * axis + 4 * k) l.page ≤ℤ signed_at (16 + 800 * axis + 400 + 4 * k) l.page
