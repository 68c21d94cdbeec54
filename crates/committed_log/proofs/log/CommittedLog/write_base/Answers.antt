-- A block of the base that has no slot.
use Rattle.std.proofs.Common.{◌≡◌, arith, inl, refl}
use Rattle.std.specs.List.{Contains}
use Rattle.block_device.specs.Device.{Torn, written}
use Rattle.committed_log.specs.Committed.{base_of, homes_of, journal_of}
use Rattle.committed_log.specs.Replay.{length-overlaid}
use Rattle.committed_log.proofs.Stood.{base_leaves, base_stands, base_torn, base_written, on_err, on_ok}
use Rattle.committed_log.proofs.Stood.{torn_of}
use Rattle.committed_log.proofs.log.CommittedLog.write_base.Given as given
use Rattle.committed_log.proofs.log.CommittedLog.write_base.Goals as goal
use Rattle.committed_log.proofs.log.CommittedLog.write_base.Goals.{After-write_base}

torn_so : (g : given.Over) (c : After-write_base g) → g.P.DevicePair.honest c.args.self.now.pair
    → Torn c.args.i (g.P.DevicePair.base c.args.self.now.pair)
    (g.P.DevicePair.base c.write_base.new.self)
torn_so g c h =
    torn_of c.write_base.result c.args.i c.args.bytes.now _ _
    (record { size = c.told-bytes; bytes_fit = c.fits-bytes }) (c.write_base.ensures.written h)
    (c.write_base.ensures.torn h)

none_so : (g : given.Over) (c : After-write_base g) → ¬ Contains c.args.self.now.slots.homes.items c.args.i
none_so g c = c.has_slot.ensures.none c.if-has_slot.false

pub returns-then-has_slot-clause-stops : goal.returns-then-has_slot-clause-stops
returns-then-has_slot-clause-stops g c = λ h v j left. (v, left, inl refl)

pub write_base-requires-clause-within : goal.write_base-requires-clause-within
write_base-requires-clause-within g c = let d = c.args.self.now in
    omega (arith, c.requires.within, length-overlaid (homes_of d) (journal_of d) (base_of d))

pub invariant_of-self : goal.invariant_of-self
invariant_of-self g c =
    let d = c.args.self.now in let p = g.P.DevicePair in let e = c.write_base.new.self in
    let at = (goal.at.invariant_of-self g c).After-write_base in
    record {
      standing = λ h2.
          let h = c.write_base.ensures.honest.1 h2 in
          base_stands d.clearing d.slots.homes.items c.args.i (p.base d.pair) (p.base e)
          (p.journal d.pair) (p.journal e) (p.may_leave d.pair) (p.may_leave e) c.requires.settled
          (c.write_base.ensures.journal h) (torn_so g at h) (c.write_base.ensures.stops h) (d.standing h);
    }

pub returns-clause-written : goal.returns-clause-written
returns-clause-written g c = λ h.
    let d = c.args.self.now in let p = g.P.DevicePair in let e = c.write_base.new.self in
    let at = (goal.at.returns-clause-written g c).After-write_base in
    on_ok c.write_base.result _ _
    (λ (w : p.base e ≡ written c.args.i c.args.bytes.now (p.base d.pair)).
    base_written d.slots.homes.items c.args.i c.args.bytes.now (p.base d.pair) (p.base e)
    (p.journal d.pair) (p.journal e) (c.write_base.ensures.journal h) (none_so g at) (d.standing h).homes
    (omega (arith, (g.met.P.DevicePair.few_blocks d.pair).0)) w) (c.write_base.ensures.written h)

pub returns-clause-torn : goal.returns-clause-torn
returns-clause-torn g c = λ h.
    let d = c.args.self.now in let p = g.P.DevicePair in let e = c.write_base.new.self in
    let at = (goal.at.returns-clause-torn g c).After-write_base in
    on_err c.write_base.result _ _ (λ (t : Torn c.args.i (p.base d.pair) (p.base e)).
    base_torn d.slots.homes.items c.args.i (p.base d.pair) (p.base e) (p.journal d.pair) (p.journal e)
    (c.write_base.ensures.journal h) (none_so g at) (d.standing h).homes
    (omega (arith, (g.met.P.DevicePair.few_blocks d.pair).0)) t) (c.write_base.ensures.torn h)

pub returns-clause-stops : goal.returns-clause-stops
returns-clause-stops g c = λ h.
    let d = c.args.self.now in let p = g.P.DevicePair in let e = c.write_base.new.self in
    let at = (goal.at.returns-clause-stops g c).After-write_base in
    base_leaves d.clearing d.slots.homes.items c.args.i (p.base d.pair) (p.base e) (p.journal d.pair)
    (p.journal e) (p.may_leave d.pair) (p.may_leave e) c.requires.settled (none_so g at)
    (c.write_base.ensures.stops h)
    (λ a b left. omega (
      arith,
      (g.met.P.DevicePair.no_longer d.pair a b h left).0,
      (g.met.P.DevicePair.few_blocks d.pair).0,
    )) (d.standing h)

pub returns-then-has_slot-clause-base_stops : goal.returns-then-has_slot-clause-base_stops
returns-then-has_slot-clause-base_stops g c = λ h a b left. (a, left, inl refl)

pub returns-clause-base : goal.returns-clause-base
returns-clause-base g c = λ h. torn_so g (goal.at.returns-clause-base g c).After-write_base h
