-- The references read so far.
use Rattle.std.proofs.Common.{ℕ, ◌+◌, ◌*◌, ◌^◌, ◌<◌, ◌≤◌, ◌↔◌, IsTrue}
use Rattle.block_bytes.specs.Numbers.{number_at}
use Rattle.node_bytes.proofs.columns.are_references.Given as goal

abbrev pub invariant-loop-place : goal.invariant-loop-place
invariant-loop-place l = IsTrue l.good
    ↔ ((k : ℕ) → k < l.place
    → (3 ≤ number_at 8 (l.first + 8 * k) l.page) × (number_at 8 (l.first + 8 * k) l.page < 2 ^ 31))
