-- A block of the base that has a slot.
use Rattle.std.proofs.Common.{◌≡◌, ◌∙◌, ◌<◌, arith, length, sym}
use Rattle.block_device.specs.Device.{Torn}
use Rattle.device_pair.specs.Runs.{pair_call}
use Rattle.committed_log.specs.Log.{overlaid}
use Rattle.committed_log.specs.Stops.{IsStanding}
use Rattle.committed_log.proofs.Homing.{Quiet, home_quiet, home_seen, quiet_first, quiet_recovers}
use Rattle.committed_log.proofs.Stood.{base_stands, torn_of}
use Rattle.committed_log.proofs.WritingOne.{only_written}
use Rattle.committed_log.proofs.log.CommittedLog.put_home.Given as given
use Rattle.committed_log.proofs.log.CommittedLog.put_home.Goals as goal
use Rattle.committed_log.proofs.log.CommittedLog.put_home.Goals.{After-write_base}

torn_so : (g : given.Over) (c : After-write_base g) → g.P.DevicePair.honest c.args.self.now.pair
    → Torn c.args.home (g.P.DevicePair.base c.args.self.now.pair)
    (g.P.DevicePair.base c.write_base.new.self)
torn_so g c h =
    torn_of c.write_base.result c.args.home c.args.bytes.now _ _
    (record { size = c.told-bytes; bytes_fit = c.fits-bytes }) (c.write_base.ensures.written h)
    (c.write_base.ensures.torn h)

there_so : (g : given.Over) (c : After-write_base g)
    → c.args.home < length (g.P.DevicePair.base c.args.self.now.pair)
there_so g c = omega (arith, c.if-home-base_blocks.false, c.base_blocks.ensures.is)

stands_so : (g : given.Over) (c : After-write_base g) → g.P.DevicePair.honest c.args.self.now.pair
    → IsStanding c.args.self.now.clearing c.args.self.now.slots.homes.items
    (g.P.DevicePair.base c.write_base.new.self) (g.P.DevicePair.journal c.write_base.new.self)
    (g.P.DevicePair.may_leave c.write_base.new.self)
stands_so g c h =
    let d = c.args.self.now in let p = g.P.DevicePair in let e = c.write_base.new.self in
    base_stands d.clearing d.slots.homes.items c.args.home (p.base d.pair) (p.base e) (p.journal d.pair)
    (p.journal e) (p.may_leave d.pair) (p.may_leave e) c.requires.settled (c.write_base.ensures.journal h)
    (torn_so g c h) (c.write_base.ensures.stops h) (d.standing h)

seen_so : (g : given.Over) (c : After-write_base g) → g.P.DevicePair.honest c.args.self.now.pair
    → overlaid c.args.self.now.slots.homes.items (g.P.DevicePair.journal c.write_base.new.self)
    (g.P.DevicePair.base c.write_base.new.self)
    ≡ overlaid c.args.self.now.slots.homes.items (g.P.DevicePair.journal c.args.self.now.pair)
    (g.P.DevicePair.base c.args.self.now.pair)
seen_so g c h =
    let d = c.args.self.now in let p = g.P.DevicePair in let e = c.write_base.new.self in
    home_seen d.clearing d.slots.homes.items c.args.home (p.base d.pair) (p.base e) (p.journal d.pair)
    (p.journal e) (p.may_leave d.pair) (p.may_leave e) c.requires.settled c.requires.slot (there_so g c)
    (g.met.P.DevicePair.few_blocks d.pair).0 (c.write_base.ensures.journal h) (d.standing h) (torn_so g c h)

-- what a stop leaves, as it is read
quiet_so : (g : given.Over) (c : After-write_base g) → g.P.DevicePair.honest c.args.self.now.pair
    → Quiet c.args.self.now.slots.homes.items
    (overlaid c.args.self.now.slots.homes.items (g.P.DevicePair.journal c.args.self.now.pair)
    (g.P.DevicePair.base c.args.self.now.pair)) (g.P.DevicePair.may_leave c.write_base.new.self)
quiet_so g c h =
    let d = c.args.self.now in let p = g.P.DevicePair in let e = c.write_base.new.self in
    let q = c.requires.quiet h in
    home_quiet d.clearing d.slots.homes.items c.args.home (p.base d.pair) (p.base e) (p.journal d.pair)
    (p.journal e) (p.may_leave d.pair) (p.may_leave e) c.requires.settled c.requires.slot (there_so g c)
    (g.met.P.DevicePair.few_blocks d.pair).0 (c.write_base.ensures.journal h) (d.standing h)
    (c.write_base.ensures.stops h) (record { base = q.base; unsaid = q.unsaid; there = q.there })

pub invariant_of-self : goal.invariant_of-self
invariant_of-self g c =
    record {
      standing = λ h. stands_so g (goal.at.invariant_of-self g c).After-write_base
          (c.write_base.ensures.honest.1 h);
    }

pub returns-clause-seen : goal.returns-clause-seen
returns-clause-seen g c = λ h. seen_so g (goal.at.returns-clause-seen g c).After-write_base h

pub returns-clause-quiet : goal.returns-clause-quiet
returns-clause-quiet g c = λ h.
    let at = (goal.at.returns-clause-quiet g c).After-write_base in
    let q = quiet_so g at h in
    record {
      base = λ v j l. q.base v j l ∙ sym (seen_so g at h);
      unsaid = q.unsaid;
      there = q.there;
    }

pub returns-clause-stops : goal.returns-clause-stops
returns-clause-stops g c = λ h.
    let d = c.args.self.now in let p = g.P.DevicePair in let e = c.write_base.new.self in
    let at = (goal.at.returns-clause-stops g c).After-write_base in
    pair_call p.moment p.left_since d.pair e _ (p.may_leave e) (c.write_base.ensures.time h)
    (quiet_recovers d.clearing d.slots.homes.items (p.base e) (p.journal e) _ (p.may_leave e)
    (g.met.P.DevicePair.few_blocks e).0 (stands_so g at h) (quiet_so g at h))

pub returns-clause-last : goal.returns-clause-last
returns-clause-last g c = λ h.
    let d = c.args.self.now in let p = g.P.DevicePair in let e = c.write_base.new.self in
    let at = (goal.at.returns-clause-last g c).After-write_base in
    pair_call p.moment p.left_since d.pair e _ (p.may_leave e) (c.write_base.ensures.time h)
    (quiet_first d.clearing d.slots.homes.items (p.base e) (p.journal e) _ (p.may_leave e)
    (g.met.P.DevicePair.few_blocks e).0 (stands_so g at h) (quiet_so g at h))

pub returns-clause-only : goal.returns-clause-only
returns-clause-only g c = λ h.
    let d = c.args.self.now in
    let at = (goal.at.returns-clause-only g c).After-write_base in
    only_written c.args.home d _ h c.requires.settled c.requires.slot (there_so g at)
    (g.met.P.DevicePair.few_blocks d.pair).0 (torn_so g at h) (c.write_base.ensures.stops h)
    (c.write_base.ensures.time h)
