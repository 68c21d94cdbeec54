-- What holds at each turn of the loop of `levels_from`.
use Rattle.std.proofs.Common.{◌≡◌}
use Rattle.reinsert.specs.Called.{called_from}
use Rattle.reinsert.proofs.waiting.queue.levels_from.Given as goal

-- the levels so far are not called
abbrev pub invariant-loop-level : goal.invariant-loop-level
invariant-loop-level l = l.called ≡ called_from l.level
