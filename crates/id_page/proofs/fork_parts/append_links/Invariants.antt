-- The children of the other page up to the place are behind those of this one.
use Rattle.std.proofs.Common.{◌≡◌, ◌+◌, ◌-◌, ◌≤◌, ◌++◌, ℕ, Some, drop, take}
use Rattle.block_bytes.specs.Numbers.{number_at}
use Rattle.id_page.specs.Fork.{ForkContent, IsTidyFork, fork_at, with_links}
use Rattle.id_page.proofs.fork_parts.append_links.Given as goal

abbrev pub invariant-loop-place : goal.invariant-loop-place
invariant-loop-place l = record {
  from : l.from ≤ l.place;
  many : number_at 2 2 l.page ≡ number_at 2 2 l.fn.page + (l.place - l.from);
  appended : (dims : ℕ) (c more : ForkContent) → fork_at dims l.fn.page ≡ Some c
      → fork_at dims l.other ≡ Some more
      → fork_at dims l.page ≡ Some
      (with_links c (c.links ++ take (l.place - l.from) (drop l.from more.links)));
  tidy : IsTidyFork l.fn.page → IsTidyFork l.page;
}
