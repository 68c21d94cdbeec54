-- What holds at each turn of the loop of `settle`, and that it ends.
use Rattle.std.proofs.Common.{◌++◌, length}
use Rattle.nearest.proofs.SearchLemmas.{Settling}
use Rattle.nearest.proofs.search.settle.Given as goal

-- all are in the queue, new or left out
abbrev pub invariant-loop-candidate : goal.invariant-loop-candidate
invariant-loop-candidate g l = Settling l.k l.best (l.fn.queue ++ l.fn.fresh.items) l.queue l.fresh.items

abbrev pub decreases-loop-candidate : goal.decreases-loop-candidate
decreases-loop-candidate g l = length l.fresh.items
