-- The greatest number so far.
use Rattle.std.proofs.Common.{◌+◌, ◌*◌}
use Rattle.block_bytes.specs.Numbers.{signed_at}
use Rattle.node_bytes.specs.Columns.{IsGreatestOf}
use Rattle.node_bytes.proofs.columns.greatest_of.Given as goal

abbrev pub invariant-loop-place : goal.invariant-loop-place
invariant-loop-place l = IsGreatestOf (λ k. signed_at (l.first + 4 * k) l.page) l.place l.greatest
