-- The bytes cleared so far, and the places that stay.
use Rattle.std.proofs.Common.{◌≡◌, ℕ, ◌<◌, ◌≤◌, length}
use Rattle.block_bytes.specs.Numbers.{number_at}
use Rattle.box_bytes.specs.Corners.{Keeps}
use Rattle.bucket_page.specs.Layout.{IsClearOfEntry, entry_size}
use Rattle.bucket_page.proofs.entries.clear_entry.Given as goal

abbrev pub invariant-loop-k : goal.invariant-loop-k
invariant-loop-k g l = record {
  size : length l.page ≡ 4096;
  from : l.at ≤ l.k;
  cleared : (j : ℕ) → l.at ≤ j → j < l.k → number_at 1 j l.page ≡ 0;
  others : Keeps (IsClearOfEntry (entry_size g.row.D 7) l.fn.place) l.fn.page l.page;
}
