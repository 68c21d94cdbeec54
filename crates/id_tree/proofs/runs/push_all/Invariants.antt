-- What holds at each turn of the loop of `push_all`.
use Rattle.std.proofs.Common.{◌-◌, ◌≤◌, length}
use Rattle.page_cache.specs.Cache.{Grows}
use Rattle.id_tree.proofs.FillLemmas.{Pushing}
use Rattle.id_tree.proofs.runs.push_all.Given as goal

-- the objects so far are in the leaf
abbrev pub invariant-loop-pushed : goal.invariant-loop-pushed
invariant-loop-pushed g l = record {
  pushing : Pushing g.row.D l.leaf l.fn.cache l.cache l.objects l.pushed;
  within : l.pushed ≤ length l.objects;
  grows : Grows 0 l.fn.cache l.cache;
}

abbrev pub decreases-loop-pushed : goal.decreases-loop-pushed
decreases-loop-pushed g l = length l.objects - l.pushed
