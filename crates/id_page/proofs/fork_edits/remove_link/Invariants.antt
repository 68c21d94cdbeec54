-- The children up to the place are as they will be.
use Rattle.std.proofs.Common.{◌≡◌, ◌+◌, ◌≤◌, ◌++◌, ℕ, Some, drop, remove, take}
use Rattle.block_bytes.specs.Numbers.{number_at}
use Rattle.id_page.specs.Fork.{ForkContent, IsTidyFork, fork_at, with_links}
use Rattle.id_page.proofs.fork_edits.remove_link.Given as goal

abbrev pub invariant-loop-at : goal.invariant-loop-at
invariant-loop-at l = record {
  from : l.fn.place ≤ l.at;
  upto : l.at + 1 ≤ number_at 2 2 l.fn.page;
  count : number_at 2 2 l.page ≡ number_at 2 2 l.fn.page;
  moved : (dims : ℕ) (c : ForkContent) → fork_at dims l.fn.page ≡ Some c
      → fork_at dims l.page ≡ Some
      (with_links c (take l.at (remove c.links l.fn.place) ++ drop l.at c.links));
  tidy : IsTidyFork l.fn.page → IsTidyFork l.page;
}
