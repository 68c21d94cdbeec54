-- What holds at each turn of the loop of `fill`.
use Rattle.std.proofs.Common.{◌*◌, ◌-◌, ◌≤◌, length}
use Rattle.page_cache.specs.Cache.{Grows}
use Rattle.id_words.specs.Objects.{pairs_in}
use Rattle.id_tree.proofs.FillLemmas.{Filling}
use Rattle.id_tree.proofs.filling.fill.Given as goal

-- the objects so far are added
abbrev pub invariant-loop-filled : goal.invariant-loop-filled
invariant-loop-filled g l = record {
  filling : Filling g.row.D l.fn.root l.fn.cache l.cache (pairs_in l.entries) l.filled;
  within : l.filled ≤ length l.entries;
  grows : Grows (7 * l.filled) l.fn.cache l.cache;
}

abbrev pub decreases-loop-filled : goal.decreases-loop-filled
decreases-loop-filled g l = length l.entries - l.filled
