-- The first keys ascend.
use Rattle.std.proofs.Common.{◌-◌, ◌<◌, ◌≤◌, ℕ}
use Rattle.id_page.specs.Fork.{link_at}
use Rattle.id_page.proofs.fork.are_ascending.Given as goal

abbrev pub invariant-loop-place : goal.invariant-loop-place
invariant-loop-place l = (k : ℕ) → 2 ≤ k → k < l.place → (link_at l.page (k - 1)).0 < (link_at l.page k).0
