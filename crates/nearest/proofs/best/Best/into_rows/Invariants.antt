-- What holds at each turn of the loop of `into_rows`.
use Rattle.std.proofs.Common.{◌≡◌, map, take}
use Rattle.nearest.proofs.QueueLemmas.{row_of}
use Rattle.nearest.proofs.best.Best.into_rows.Given as goal

-- the rows of the objects so far
abbrev pub invariant-loop-place : goal.invariant-loop-place
invariant-loop-place g l = l.rows.items ≡ map row_of (take l.place l.objects.items)
