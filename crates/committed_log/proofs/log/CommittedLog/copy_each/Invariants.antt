-- The newest slots among the first k are home.
use Rattle.std.proofs.Common.{◌≡◌, false, length}
use Rattle.committed_log.specs.Committed.{clearing_of, homes_of}
use Rattle.committed_log.proofs.Copies.{CopiedTo}
use Rattle.committed_log.proofs.log.CommittedLog.copy_each.Given as goal

abbrev pub invariant-loop-k : goal.invariant-loop-k
invariant-loop-k g l = CopiedTo l.k l.fn.self l.self × (l.k-end ≡ length (homes_of l.fn.self))
    × (clearing_of l.fn.self ≡ false)
