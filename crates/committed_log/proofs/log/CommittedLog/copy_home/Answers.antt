-- All slots are copied home, and the log begins anew.
use Rattle.std.proofs.Common.{◌≡◌, ◌∙◌, ◌<◌, ◌≤◌, ap, arith, drop, length, refl, sym}
use Rattle.device_pair.specs.Pairs.{PairLeaves}
use Rattle.device_pair.specs.Runs.{pair_call, pair_then, pair_weaker}
use Rattle.committed_log.specs.Committed.{behind_of, homes_of, seen_of, SameLog}
use Rattle.committed_log.specs.Home.{FirstShow}
use Rattle.committed_log.specs.Log.{overlaid, recovered}
use Rattle.committed_log.proofs.Homing.{Quiet, copied_stands, drop_longer, quiet_first, quiet_recovers}
use Rattle.committed_log.proofs.Homing.{quiet_still, seen_equal}
use Rattle.committed_log.proofs.Keeping.{first_shows}
use Rattle.committed_log.proofs.Stood.{on_any, on_err}
use Rattle.committed_log.proofs.log.CommittedLog.copy_home.Given as given
use Rattle.committed_log.proofs.log.CommittedLog.copy_home.Goals as goal
use Rattle.committed_log.proofs.log.CommittedLog.copy_home.Goals.{After-sync_base}

seen_so : (g : given.Over) (c : After-sync_base g) → g.P.DevicePair.honest c.args.self.now.pair
    → overlaid c.copy_slots.new.self.slots.homes.items (g.P.DevicePair.journal c.sync_base.new.self)
    (g.P.DevicePair.base c.sync_base.new.self) ≡ seen_of c.args.self.now
seen_so g c h =
    let m = c.copy_slots.new.self in let p = g.P.DevicePair in let e = c.sync_base.new.self in
    let h1 = c.copy_slots.ensures.honest.0 h in
    seen_equal m.slots.homes.items (p.base m.pair) (p.base e) (p.journal m.pair) (p.journal e)
    (c.sync_base.ensures.base h1) (c.sync_base.ensures.journal h1)
    ∙ c.copy_slots.ensures.seen h

quiet_so : (g : given.Over) (c : After-sync_base g) → g.P.DevicePair.honest c.args.self.now.pair
    → Quiet c.copy_slots.new.self.slots.homes.items (seen_of c.copy_slots.new.self)
    (g.P.DevicePair.may_leave c.copy_slots.new.self.pair)
quiet_so g c h =
    let q = c.copy_slots.ensures.quiet h in record { base = q.base; unsaid = q.unsaid; there = q.there }

leaves_so : (g : given.Over) (c : After-sync_base g) → g.P.DevicePair.honest c.args.self.now.pair
    → PairLeaves g.P.DevicePair.moment g.P.DevicePair.left_since c.args.self.now.pair c.sync_base.new.self
    (λ a b. recovered a b ≡ seen_of c.args.self.now)
leaves_so g c h =
    let d = c.args.self.now in let m = c.copy_slots.new.self in let p = g.P.DevicePair in
    let e = c.sync_base.new.self in
    let h1 = c.copy_slots.ensures.honest.0 h in
    pair_then p.moment p.left_since d.pair m.pair e _ (c.copy_slots.ensures.stops h)
    (pair_call p.moment p.left_since m.pair e _ (p.may_leave e) (c.sync_base.ensures.time h1) (λ a b left.
    quiet_recovers m.clearing m.slots.homes.items (p.base m.pair) (p.journal m.pair) (seen_of m)
    (p.may_leave m.pair) (g.met.P.DevicePair.few_blocks m.pair).0 (m.standing h1) (quiet_so g c h) a b
    (c.sync_base.ensures.stops h1 a b left)
    ∙ c.copy_slots.ensures.seen h))

last_so : (g : given.Over) (c : After-sync_base g) → g.P.DevicePair.honest c.args.self.now.pair
    → PairLeaves g.P.DevicePair.moment g.P.DevicePair.left_since c.args.self.now.pair c.sync_base.new.self
    (FirstShow (homes_of c.args.self.now) (seen_of c.args.self.now))
last_so g c h =
    let d = c.args.self.now in let m = c.copy_slots.new.self in let p = g.P.DevicePair in
    let e = c.sync_base.new.self in
    let h1 = c.copy_slots.ensures.honest.0 h in
    pair_then p.moment p.left_since d.pair m.pair e _ (c.copy_slots.ensures.last h)
    (pair_call p.moment p.left_since m.pair e _ (p.may_leave e) (c.sync_base.ensures.time h1) (λ a b left.
    first_shows (homes_of m) (homes_of d) (seen_of m) (seen_of d) c.copy_slots.ensures.log.homes
    (c.copy_slots.ensures.seen h) a b
    (quiet_first m.clearing m.slots.homes.items (p.base m.pair) (p.journal m.pair) (seen_of m)
    (p.may_leave m.pair) (g.met.P.DevicePair.few_blocks m.pair).0 (m.standing h1) (quiet_so g c h) a b
    (c.sync_base.ensures.stops h1 a b left))))

pub returns-in_err-sync_base-clause-last : goal.returns-in_err-sync_base-clause-last
returns-in_err-sync_base-clause-last g c = λ h.
    last_so g (goal.at.returns-in_err-sync_base-clause-last g c).After-sync_base h

pub returns-clause-last : goal.returns-clause-last
returns-clause-last g c = λ h.
    let d = c.args.self.now in let p = g.P.DevicePair in let e = c.sync_base.new.self in
    let at = (goal.at.returns-clause-last g c).After-sync_base in
    pair_then p.moment p.left_since d.pair e c.settle.new.self.pair _ (last_so g at h)
    (pair_weaker p.moment p.left_since e c.settle.new.self.pair _ _
    (first_shows (homes_of c.copy_slots.new.self) (homes_of d) _ (seen_of d) c.copy_slots.ensures.log.homes
    (seen_so g at h))
    (c.settle.ensures.last (c.sync_base.ensures.honest.0 (c.copy_slots.ensures.honest.0 h)) refl))

pub invariant_of-self-2 : goal.invariant_of-self-2
invariant_of-self-2 g c =
    let d = c.args.self.now in let m = c.copy_slots.new.self in let p = g.P.DevicePair in
    let e = c.sync_base.new.self in
    let at = (goal.at.invariant_of-self-2 g c).After-sync_base in
    let some : 0 < length (homes_of m) =
    omega (arith, c.len.ensures, c.if-len-eq0.false, ap length c.copy_slots.ensures.log.homes) in
    record {
      standing = λ h2.
          let h1 = c.sync_base.ensures.honest.1 h2 in
          let h = c.copy_slots.ensures.honest.1 h1 in
          copied_stands m.clearing m.slots.homes.items (p.base m.pair) (p.base e) (p.journal m.pair)
          (p.journal e) (p.may_leave m.pair) (p.may_leave e) some
          (c.copy_slots.ensures.log.clearing ∙ c.requires.settled) (c.sync_base.ensures.base h1)
          (c.sync_base.ensures.journal h1) (c.sync_base.ensures.stops h1)
          (c.in_ok-sync_base.ensures.durable h1)
          (c.in_ok-copy_slots.ensures.home h ∙ sym (c.copy_slots.ensures.seen h)) (quiet_so g at h)
          (m.standing h1);
    }

pub returns-in_err-sync_base-clause-quiet : goal.returns-in_err-sync_base-clause-quiet
returns-in_err-sync_base-clause-quiet g c = λ h.
    let m = c.copy_slots.new.self in let p = g.P.DevicePair in let e = c.sync_base.new.self in
    let at = (goal.at.returns-in_err-sync_base-clause-quiet g c).After-sync_base in
    let h1 = c.copy_slots.ensures.honest.0 h in
    let q = quiet_still m.slots.homes.items (seen_of m) (p.may_leave m.pair) (p.may_leave e)
    (c.sync_base.ensures.stops h1) (quiet_so g at h) in
    record {
      base = λ v j l. q.base v j l ∙ c.copy_slots.ensures.seen h ∙ sym (seen_so g at h);
      unsaid = q.unsaid;
      there = q.there;
    }

pub returns-in_err-sync_base-clause-seen : goal.returns-in_err-sync_base-clause-seen
returns-in_err-sync_base-clause-seen g c = λ h.
    seen_so g (goal.at.returns-in_err-sync_base-clause-seen g c).After-sync_base h

pub returns-in_err-sync_base-clause-stops : goal.returns-in_err-sync_base-clause-stops
returns-in_err-sync_base-clause-stops g c = λ h.
    leaves_so g (goal.at.returns-in_err-sync_base-clause-stops g c).After-sync_base h

pub returns-clause-seen : goal.returns-clause-seen
returns-clause-seen g c = λ h.
    c.settle.ensures.seen (c.sync_base.ensures.honest.0 (c.copy_slots.ensures.honest.0 h))
    ∙ seen_so g (goal.at.returns-clause-seen g c).After-sync_base h

pub returns-clause-stops : goal.returns-clause-stops
returns-clause-stops g c = λ h.
    let d = c.args.self.now in let p = g.P.DevicePair in let e = c.sync_base.new.self in
    let at = (goal.at.returns-clause-stops g c).After-sync_base in
    pair_then p.moment p.left_since d.pair e c.settle.new.self.pair _ (leaves_so g at h)
    (pair_weaker p.moment p.left_since e c.settle.new.self.pair _ _ (λ a b is. is ∙ seen_so g at h)
    (c.settle.ensures.stops (c.sync_base.ensures.honest.0 (c.copy_slots.ensures.honest.0 h)) refl))

pub returns-in_err-copy_slots-clause-room : goal.returns-in_err-copy_slots-clause-room
returns-in_err-copy_slots-clause-room g c = λ h.
    let d = c.args.self.now in let m = c.copy_slots.new.self in let p = g.P.DevicePair in
    drop_longer d.slots.homes.items m.slots.homes.items (p.journal d.pair) (p.journal m.pair)
    (omega (arith, ap length c.copy_slots.ensures.log.homes))
    (omega (arith, ap length (c.copy_slots.ensures.journal h)))

-- the journal is as it was
room_so : (g : given.Over) (c : After-sync_base g) → g.P.DevicePair.honest c.args.self.now.pair
    → length (behind_of c.args.self.now)
    ≤ length (drop (length c.copy_slots.new.self.slots.homes.items) (g.P.DevicePair.journal c.sync_base.new.self))
room_so g c h =
    let d = c.args.self.now in let m = c.copy_slots.new.self in let p = g.P.DevicePair in
    let e = c.sync_base.new.self in
    drop_longer d.slots.homes.items m.slots.homes.items (p.journal d.pair) (p.journal e)
    (omega (arith, ap length c.copy_slots.ensures.log.homes))
    (omega (
      arith,
      ap length (c.copy_slots.ensures.journal h),
      ap length (c.sync_base.ensures.journal (c.copy_slots.ensures.honest.0 h)),
    ))

pub returns-in_err-sync_base-clause-room : goal.returns-in_err-sync_base-clause-room
returns-in_err-sync_base-clause-room g c = λ h.
    room_so g (goal.at.returns-in_err-sync_base-clause-room g c).After-sync_base h

pub returns-clause-room : goal.returns-clause-room
returns-clause-room g c = λ h.
    omega (
      arith,
      room_so g (goal.at.returns-clause-room g c).After-sync_base h,
      c.settle.ensures.room (c.sync_base.ensures.honest.0 (c.copy_slots.ensures.honest.0 h)),
    )

pub returns-in_err-copy_slots-clause-refused : goal.returns-in_err-copy_slots-clause-refused
returns-in_err-copy_slots-clause-refused g c =
    on_any c.from_residual.result _ c.copy_slots.ensures.log.homes

pub returns-in_err-sync_base-clause-refused : goal.returns-in_err-sync_base-clause-refused
returns-in_err-sync_base-clause-refused g c =
    on_any c.from_residual-in_err-sync_base.result _ c.copy_slots.ensures.log.homes

pub returns-clause-refused : goal.returns-clause-refused
returns-clause-refused g c =
    on_err c.settle.result _ _
    (λ (same : SameLog _ c.settle.new.self). same.homes ∙ c.copy_slots.ensures.log.homes)
    (c.settle.ensures.refused refl)
