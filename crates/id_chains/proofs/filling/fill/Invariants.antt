-- What holds at each turn of the loop of `fill`.
use Rattle.std.proofs.Common.{◌≡◌, ◌⊎◌, ◌+◌, ◌-◌, ◌/◌, ◌≤◌, drop, length, true}
use Rattle.page_cache.specs.Cache.{Grows, IsPageMap, touched_of}
use Rattle.id_words.specs.Objects.{pairs_in}
use Rattle.id_chains.specs.Pages.{next_class}
use Rattle.id_chains.specs.Walks.{KeepsFirst}
use Rattle.id_chains.proofs.FillLemmas.{AreInOrder, Filling}
use Rattle.id_chains.proofs.filling.fill.Given as goal

-- the objects so far are added
abbrev pub invariant-loop-filled : goal.invariant-loop-filled
invariant-loop-filled g l = record {
  filling : Filling g.row.D l.fn.directory l.fn.cache l.cache (pairs_in l.entries) l.filled;
  within : l.filled ≤ length l.entries;
  grows : Grows l.filled l.fn.cache l.cache;
  takes : AreInOrder (pairs_in l.entries)
      → Grows (l.filled / 100 + next_class (drop l.filled (pairs_in l.entries))) l.fn.cache l.cache;
  untouched : (l.cache ≡ l.fn.cache) ⊎ (touched_of l.cache ≡ true);
  kept : IsPageMap l.fn.cache → KeepsFirst g.row.D l.fn.directory l.fn.cache l.cache;
}

abbrev pub decreases-loop-filled : goal.decreases-loop-filled
decreases-loop-filled g l = length l.entries - l.filled
