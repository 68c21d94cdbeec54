-- The first k blocks are added.
use Rattle.std.proofs.Common.{replicate}
use Rattle.committed_log.specs.Log.{no_home}
use Rattle.committed_log.proofs.Taking.{AddedTo}
use Rattle.committed_log.proofs.log.taking.push_none.Given as goal

abbrev pub invariant-loop-k : goal.invariant-loop-k
invariant-loop-k g l = AddedTo (replicate l._k no_home) l._k l.fn.slots l.slots
