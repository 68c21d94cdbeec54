-- The first k slots are added.
use Rattle.std.proofs.Common.{take}
use Rattle.committed_log.proofs.Taking.{AddedTo}
use Rattle.committed_log.proofs.log.taking.push_all.Given as goal

abbrev pub invariant-loop-k : goal.invariant-loop-k
invariant-loop-k g l = AddedTo (take l.k l.homes) l.k l.fn.slots l.slots
