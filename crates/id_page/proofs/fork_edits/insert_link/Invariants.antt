-- The children up to the place are as they will be, and the next one is carried.
use Rattle.std.proofs.Common.{◌≡◌, ◌≤◌, ◌++◌, ℕ, Some, drop, get_or, insert, take}
use Rattle.block_bytes.specs.Numbers.{number_at}
use Rattle.id_page.specs.Fork.{ForkContent, IsTidyFork, Link, fork_at, with_links}
use Rattle.id_page.proofs.ForkReading.{some_link}
use Rattle.id_page.proofs.fork_edits.insert_link.Given as goal

abbrev pub invariant-loop-at : goal.invariant-loop-at
invariant-loop-at l = record {
  from : l.fn.place ≤ l.at;
  upto : l.at ≤ number_at 2 2 l.fn.page;
  count : number_at 2 2 l.page ≡ number_at 2 2 l.fn.page;
  moved : (dims : ℕ) (c : ForkContent) → fork_at dims l.fn.page ≡ Some c
      → fork_at dims l.page ≡ Some
      (with_links c (take l.at (insert c.links l.fn.place (l.fn.key, l.fn.child)) ++ drop l.at c.links));
  carried : (dims : ℕ) (c : ForkContent) → fork_at dims l.fn.page ≡ Some c
      → ◌≡◌ {A = Link} (l.moved_key, l.moved_child)
      (get_or (insert c.links l.fn.place (l.fn.key, l.fn.child)) l.at some_link);
  tidy : IsTidyFork l.fn.page → IsTidyFork l.page;
}
