-- Down the chain of a bucket.
use Rattle.committed_log.proofs.Chains.{IsSought}
use Rattle.committed_log.proofs.slots.Slots.slot_of.Given as goal

abbrev pub invariant-loop-next : goal.invariant-loop-next
invariant-loop-next g l = IsSought l.self.homes.items l.self.heads.items l.i l.next

abbrev pub decreases-loop-next : goal.decreases-loop-next
decreases-loop-next g l = l.next
