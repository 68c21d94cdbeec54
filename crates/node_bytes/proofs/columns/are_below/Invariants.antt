-- The lows and highs compared so far.
use Rattle.std.proofs.Common.{ℕ, ◌+◌, ◌*◌, ◌<◌, ◌<ℤ◌, ◌↔◌, IsTrue}
use Rattle.block_bytes.specs.Numbers.{signed_at}
use Rattle.node_bytes.proofs.columns.are_below.Given as goal

abbrev pub invariant-loop-place : goal.invariant-loop-place
invariant-loop-place l = IsTrue l.good
    ↔ ((k : ℕ) → k < l.place → signed_at (l.first + 4 * k) l.page <ℤ signed_at (l.first + 400 + 4 * k) l.page)
