-- As many children as were taken are no longer there.
use Rattle.std.proofs.Common.{◌≡◌, ◌⊎◌, ◌+◌, ◌-◌, ◌≤◌, ℕ, Some, length, take}
use Rattle.block_bytes.specs.Numbers.{number_at}
use Rattle.id_page.specs.Fork.{ForkContent, IsTidyFork, fork_at, with_links}
use Rattle.id_page.proofs.fork_parts.keep_links.Given as goal

abbrev pub invariant-loop-place : goal.invariant-loop-place
invariant-loop-place l = record {
  from : l.fn.many ≤ l.place;
  upto : (l.place ≤ l.fn.many) ⊎ (l.place ≤ number_at 2 2 l.fn.page);
  many : number_at 2 2 l.page + (l.place - l.fn.many) ≡ number_at 2 2 l.fn.page;
  kept : (dims : ℕ) (c : ForkContent) → fork_at dims l.fn.page ≡ Some c
      → fork_at dims l.page ≡ Some (with_links c (take (length c.links - (l.place - l.fn.many)) c.links));
  tidy : IsTidyFork l.fn.page → IsTidyFork l.page;
}
