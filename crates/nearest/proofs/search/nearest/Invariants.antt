-- What holds at each turn of the loop of `nearest`, and that it ends.
use Rattle.std.proofs.Common.{◌+◌}
use Rattle.nearest.specs.Candidates.{work_in}
use Rattle.nearest.proofs.SearchLemmas.{Searching}
use Rattle.nearest.proofs.search.nearest.Given as goal

-- the k best of what was seen are kept, and what waits makes all
abbrev pub invariant-loop-first : goal.invariant-loop-first
invariant-loop-first g l =
    Searching g.row.D l.k l.fn.root l.point l.fn.cache l.cache l.queue l.fresh.items l.best

-- what is taken makes room for less work
abbrev pub decreases-loop-first : goal.decreases-loop-first
decreases-loop-first g l = work_in l.queue + work_in l.fresh.items
