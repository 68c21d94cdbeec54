-- One slot more is home.
use Rattle.std.proofs.Common.{arith}
use Rattle.committed_log.proofs.Copies.{copies_end, copies_step}
use Rattle.committed_log.proofs.log.CommittedLog.copy_each.Goals as goal

pub loop-k-preserved : goal.loop-k-preserved
loop-k-preserved g c =
    let inv = c.loop-k.invariant in let e = c.copy_slot.ensures in (
      copies_step c.loop-k.k c.args.self.now c.loop-k.self c.copy_slot.new.self inv.0 e.log e.honest
          (c.in_ok-copy_slot.ensures.faults.other (λ x. cc)) e.journal
          (λ h. c.in_ok-copy_slot.ensures.copied h) e.seen e.quiet e.stops e.last,
      inv.1,
      inv.2,
    )

pub returns-clause-home : goal.returns-clause-home
returns-clause-home g c = λ h.
    copies_end c.loop-k.k c.args.self.now c.loop-k.self
    (omega (arith, c.loop-k-test.false, c.len-k-end.ensures)) c.loop-k.invariant.0 h
