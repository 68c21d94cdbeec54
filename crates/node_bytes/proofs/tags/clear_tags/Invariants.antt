-- The tags cleared so far, and nothing in front of them; no byte that was zero is another.
use Rattle.std.proofs.Common.{◌≡◌, ℕ, ◌+◌, ◌*◌, ◌<◌, ◌≤◌, length}
use Rattle.block_bytes.specs.Numbers.{number_at}
use Rattle.node_bytes.specs.Layout.{tag_place}
use Rattle.node_bytes.proofs.tags.clear_tags.Given as goal

abbrev pub invariant-loop-place : goal.invariant-loop-place
invariant-loop-place g l = record {
  cleared : (k : ℕ) → k < l.place → number_at 4 (tag_place g.row.D k) l.page ≡ 0;
  size : length l.page ≡ 4096;
  others : (n at : ℕ) → at + n ≤ 816 + 800 * g.row.D → number_at n at l.page ≡ number_at n at l.initial.page;
  zeros : (k : ℕ) → number_at 1 k l.initial.page ≡ 0 → number_at 1 k l.page ≡ 0;
}
