-- The first flag, written.
use Rattle.std.proofs.Common.{◌≡◌, ◌∙◌, Bool, arith, refl, subst, sym, true}
use Rattle.device_pair.specs.Runs.{pair_call}
use Rattle.committed_log.specs.Committed.{seen_of}
use Rattle.committed_log.specs.Log.{overlaid}
use Rattle.committed_log.specs.Stops.{IsStanding}
use Rattle.committed_log.proofs.Homing.{SameAside, aside_answer, clearing_quiet, flag_seen, flag_stands}
use Rattle.committed_log.proofs.Homing.{quiet_first, quiet_recovers, true_stands}
use Rattle.committed_log.proofs.Keeping.{first_shows}
use Rattle.committed_log.proofs.log.CommittedLog.put_flag.Given as given
use Rattle.committed_log.proofs.log.CommittedLog.put_flag.Goals as goal
use Rattle.committed_log.proofs.log.CommittedLog.put_flag.Goals.{After-write_journal}

aside_so : (g : given.Over) (c : After-write_journal g) → g.P.DevicePair.honest c.args.self.now.pair
    → SameAside (g.P.DevicePair.journal c.write_journal.new.self)
    (g.P.DevicePair.journal c.args.self.now.pair)
aside_so g c h =
    aside_answer c.write_journal.result c.flag_page.result _ _
    (omega (arith, (c.args.self.now.standing h).there)) (c.write_journal.ensures.written h)
    (c.write_journal.ensures.torn h)

stands_so : (g : given.Over) (c : After-write_journal g) → g.P.DevicePair.honest c.args.self.now.pair
    → IsStanding true c.args.self.now.slots.homes.items (g.P.DevicePair.base c.write_journal.new.self)
    (g.P.DevicePair.journal c.write_journal.new.self) (g.P.DevicePair.may_leave c.write_journal.new.self)
stands_so g c h =
    let d = c.args.self.now in let p = g.P.DevicePair in let e = c.write_journal.new.self in
    flag_stands d.slots.homes.items (p.base d.pair) (p.base e) (p.journal d.pair) (p.journal e)
    (p.may_leave d.pair) (p.may_leave e) (c.write_journal.ensures.base h) (aside_so g c h)
    (g.met.P.DevicePair.few_blocks d.pair).0
    (true_stands d.clearing d.slots.homes.items (p.base d.pair) (p.journal d.pair) (p.may_leave d.pair)
    c.requires.clearing (d.standing h)) (c.write_journal.ensures.stops h)

pub invariant_of-self : goal.invariant_of-self
invariant_of-self g c =
    let d = c.args.self.now in let p = g.P.DevicePair in let e = c.write_journal.new.self in
    record {
      standing = λ h.
          subst (λ (t : Bool). IsStanding t d.slots.homes.items (p.base e) (p.journal e) (p.may_leave e))
          (sym c.requires.clearing)
          (stands_so g (goal.at.invariant_of-self g c).After-write_journal
          (c.write_journal.ensures.honest.1 h));
    }

seen_so : (g : given.Over) (c : After-write_journal g) → g.P.DevicePair.honest c.args.self.now.pair
    → overlaid c.args.self.now.slots.homes.items (g.P.DevicePair.journal c.write_journal.new.self)
    (g.P.DevicePair.base c.write_journal.new.self)
    ≡ seen_of c.args.self.now
seen_so g c h =
    let d = c.args.self.now in let p = g.P.DevicePair in let e = c.write_journal.new.self in
    flag_seen d.slots.homes.items (p.base d.pair) (p.base e) (p.journal d.pair) (p.journal e)
    (p.may_leave d.pair) (p.may_leave e) (c.write_journal.ensures.base h) (aside_so g c h)
    (g.met.P.DevicePair.few_blocks d.pair).0
    (true_stands d.clearing d.slots.homes.items (p.base d.pair) (p.journal d.pair) (p.may_leave d.pair)
    c.requires.clearing (d.standing h))

pub returns-clause-stops : goal.returns-clause-stops
returns-clause-stops g c = λ h.
    let d = c.args.self.now in let p = g.P.DevicePair in let e = c.write_journal.new.self in
    let at = (goal.at.returns-clause-stops g c).After-write_journal in
    let few = (g.met.P.DevicePair.few_blocks e).0 in
    pair_call p.moment p.left_since d.pair e _ (p.may_leave e) (c.write_journal.ensures.time h) (λ a b left.
    quiet_recovers true d.slots.homes.items (p.base e) (p.journal e) _ (p.may_leave e) few (stands_so g at h)
    (clearing_quiet d.slots.homes.items (p.base e) (p.journal e) (p.may_leave e) few (stands_so g at h))
    a b left
    ∙ seen_so g at h)

pub returns-clause-last : goal.returns-clause-last
returns-clause-last g c = λ h.
    let d = c.args.self.now in let p = g.P.DevicePair in let e = c.write_journal.new.self in
    let at = (goal.at.returns-clause-last g c).After-write_journal in
    let few = (g.met.P.DevicePair.few_blocks e).0 in
    pair_call p.moment p.left_since d.pair e _ (p.may_leave e) (c.write_journal.ensures.time h) (λ a b left.
    first_shows d.slots.homes.items d.slots.homes.items _ (seen_of d) refl (seen_so g at h) a b
    (quiet_first true d.slots.homes.items (p.base e) (p.journal e) _ (p.may_leave e) few (stands_so g at h)
    (clearing_quiet d.slots.homes.items (p.base e) (p.journal e) (p.may_leave e) few (stands_so g at h))
    a b left))

pub returns-clause-longer : goal.returns-clause-longer
returns-clause-longer g c = λ h.
    omega (arith, (aside_so g (goal.at.returns-clause-longer g c).After-write_journal h).as_many)
