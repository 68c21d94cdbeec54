-- The first flag is cleared, and the slots forgotten.
use Rattle.std.proofs.Common.{◌≡◌, ◌∙◌, ap, arith, length, true}
use Rattle.committed_log.specs.Stops.{IsStanding}
use Rattle.committed_log.proofs.Homing.{anew_quiet, anew_stands, clearing_quiet, drop_longer, true_stands}
use Rattle.committed_log.proofs.Stood.{still_stands}
use Rattle.committed_log.proofs.log.CommittedLog.settle.Given as given
use Rattle.committed_log.proofs.log.CommittedLog.settle.Goals as goal
use Rattle.committed_log.proofs.log.CommittedLog.settle.Goals.{After-put_flag}

-- what stands once the flag was written
stands_so : (g : given.Over) (c : After-put_flag g) → c.args.self.now.clearing ≡ true
    → g.P.DevicePair.honest c.put_flag.new.self.pair
    → IsStanding true c.put_flag.new.self.slots.homes.items (g.P.DevicePair.base c.put_flag.new.self.pair)
    (g.P.DevicePair.journal c.put_flag.new.self.pair) (g.P.DevicePair.may_leave c.put_flag.new.self.pair)
stands_so g c is h =
    let m = c.put_flag.new.self in let p = g.P.DevicePair in
    true_stands m.clearing m.slots.homes.items (p.base m.pair) (p.journal m.pair) (p.may_leave m.pair)
    (c.put_flag.ensures.log.clearing ∙ is) (m.standing h)

pub returns-in_err-put_flag-clause-quiet : goal.returns-in_err-put_flag-clause-quiet
returns-in_err-put_flag-clause-quiet g c = λ h is.
    let m = c.put_flag.new.self in let p = g.P.DevicePair in
    let at = (goal.at.returns-in_err-put_flag-clause-quiet g c).After-put_flag in
    let q = clearing_quiet m.slots.homes.items (p.base m.pair) (p.journal m.pair) (p.may_leave m.pair)
    (g.met.P.DevicePair.few_blocks m.pair).0 (stands_so g at is (c.put_flag.ensures.honest.0 h)) in
    record { base = q.base; unsaid = q.unsaid; there = q.there }

pub returns-in_err-sync_journal-clause-quiet : goal.returns-in_err-sync_journal-clause-quiet
returns-in_err-sync_journal-clause-quiet g c = λ h is.
    let m = c.put_flag.new.self in let p = g.P.DevicePair in let e = c.sync_journal.new.self in
    let at = (goal.at.returns-in_err-sync_journal-clause-quiet g c).After-put_flag in
    let h1 = c.put_flag.ensures.honest.0 h in
    let q = clearing_quiet m.slots.homes.items (p.base e) (p.journal e) (p.may_leave e)
    (g.met.P.DevicePair.few_blocks e).0
    (still_stands true m.slots.homes.items (p.base m.pair) (p.base e) (p.journal m.pair) (p.journal e)
    (p.may_leave m.pair) (p.may_leave e) (c.sync_journal.ensures.base h1) (c.sync_journal.ensures.journal h1)
    (c.sync_journal.ensures.stops h1) (stands_so g at is h1)) in
    record { base = q.base; unsaid = q.unsaid; there = q.there }

pub invariant_of-self-2 : goal.invariant_of-self-2
invariant_of-self-2 g c =
    let m = c.put_flag.new.self in let p = g.P.DevicePair in let e = c.sync_journal.new.self in
    let at = (goal.at.invariant_of-self-2 g c).After-put_flag in
    record {
      standing = λ h2.
          let h1 = c.sync_journal.ensures.honest.1 h2 in
          anew_stands m.slots.homes.items c.clear.new.self.homes.items (p.base m.pair) (p.base e)
          (p.journal m.pair) (p.journal e) (p.may_leave m.pair) (p.may_leave e) c.clear.ensures
          (c.sync_journal.ensures.base h1) (c.sync_journal.ensures.journal h1)
          (c.sync_journal.ensures.stops h1) (stands_so g at c.if-not-self.false h1);
    }

pub returns-clause-quiet : goal.returns-clause-quiet
returns-clause-quiet g c = λ h is.
    let m = c.put_flag.new.self in let p = g.P.DevicePair in let e = c.sync_journal.new.self in
    let at = (goal.at.returns-clause-quiet g c).After-put_flag in
    let h1 = c.put_flag.ensures.honest.0 h in
    let q = anew_quiet m.slots.homes.items c.clear.new.self.homes.items (p.base m.pair) (p.base e)
    (p.journal m.pair) (p.journal e) (p.may_leave m.pair) (p.may_leave e) c.clear.ensures
    (c.sync_journal.ensures.base h1) (c.sync_journal.ensures.journal h1)
    (c.sync_journal.ensures.stops h1) (stands_so g at is h1)
    (c.in_ok-sync_journal.ensures.durable h1) (c.in_ok-put_flag.ensures.flag h) in
    record { base = q.base; unsaid = q.unsaid; there = q.there }

pub returns-in_err-put_flag-clause-room : goal.returns-in_err-put_flag-clause-room
returns-in_err-put_flag-clause-room g c = λ h.
    let d = c.args.self.now in let m = c.put_flag.new.self in let p = g.P.DevicePair in
    drop_longer d.slots.homes.items m.slots.homes.items (p.journal d.pair) (p.journal m.pair)
    (omega (arith, ap length c.put_flag.ensures.log.homes)) (c.put_flag.ensures.longer h)

pub returns-in_err-sync_journal-clause-room : goal.returns-in_err-sync_journal-clause-room
returns-in_err-sync_journal-clause-room g c = λ h.
    let d = c.args.self.now in let m = c.put_flag.new.self in let p = g.P.DevicePair in
    let e = c.sync_journal.new.self in
    drop_longer d.slots.homes.items m.slots.homes.items (p.journal d.pair) (p.journal e)
    (omega (arith, ap length c.put_flag.ensures.log.homes))
    (omega (
      arith,
      c.put_flag.ensures.longer h,
      ap length (c.sync_journal.ensures.journal (c.put_flag.ensures.honest.0 h)),
    ))

pub returns-clause-room : goal.returns-clause-room
returns-clause-room g c = λ h.
    let d = c.args.self.now in let p = g.P.DevicePair in let e = c.sync_journal.new.self in
    drop_longer d.slots.homes.items c.clear.new.self.homes.items (p.journal d.pair) (p.journal e)
    (omega (arith, ap length c.clear.ensures))
    (omega (
      arith,
      c.put_flag.ensures.longer h,
      ap length (c.sync_journal.ensures.journal (c.put_flag.ensures.honest.0 h)),
    ))
