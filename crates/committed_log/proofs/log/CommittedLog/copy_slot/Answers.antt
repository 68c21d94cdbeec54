-- The newest slot of a block, copied home.
use Rattle.std.proofs.Common.{◌≡◌, ◌∙◌, ℕ, ap, arith, subst, sym}
use Rattle.std.specs.Prelude.{slice_index}
use Rattle.block_device.specs.Device.{written}
use Rattle.committed_log.specs.Committed.{base_of}
use Rattle.committed_log.specs.Home.{WritesOnly}
use Rattle.committed_log.proofs.Copies.{copied_now}
use Rattle.committed_log.proofs.Keeping.{last_then, leaves_then, quiet_on, seen_still, still_last, still_leaves}
use Rattle.committed_log.proofs.Stood.{on_ok}
use Rattle.committed_log.proofs.WritingOne.{only_still, only_then}
use Rattle.committed_log.proofs.log.CommittedLog.copy_slot.Goals as goal

pub returns-in_err-read_slot-clause-quiet : goal.returns-in_err-read_slot-clause-quiet
returns-in_err-read_slot-clause-quiet g c = λ h.
    quiet_on c.args.self.now c.read_slot.new.self (c.read_slot.ensures.still h) (c.requires.quiet h)

pub put_home-requires-clause-quiet : goal.put_home-requires-clause-quiet
put_home-requires-clause-quiet g c = λ h1.
    let h = c.read_slot.ensures.honest.1 h1 in
    quiet_on c.args.self.now c.read_slot.new.self (c.read_slot.ensures.still h) (c.requires.quiet h)

pub returns-clause-copied : goal.returns-clause-copied
returns-clause-copied g c = λ h.
    let d = c.args.self.now in
    let home = slice_index c.homes.result.now c.args.k in
    let h1 = c.read_slot.ensures.honest.0 h in
    on_ok c.put_home.result _ _
    (λ (w : base_of c.put_home.new.self ≡ written home c.read_slot.new.into (base_of c.read_slot.new.self)).
    copied_now c.args.k home c.read_slot.new.into d c.put_home.new.self
    (c.is_newest.ensures.newest c.if-not-is_newest.false)
    (omega (arith, c.if-home-base_blocks.false, c.base_blocks.ensures.is))
    (c.in_ok-read_slot.ensures.bytes h)
    (w ∙ ap (written home c.read_slot.new.into) (c.read_slot.ensures.still h).base))
    (c.put_home.ensures.written h1)

pub returns-clause-stops : goal.returns-clause-stops
returns-clause-stops g c = λ h.
    let d = c.args.self.now in let m = c.read_slot.new.self in
    let h1 = c.read_slot.ensures.honest.0 h in
    let still = c.read_slot.ensures.still h in
    leaves_then d m c.put_home.new.self (seen_still d m still)
    (still_leaves d m (g.met.P.DevicePair.few_blocks m.pair).0 h1 still (c.requires.quiet h))
    (c.put_home.ensures.stops h1)

pub returns-in_err-read_slot-clause-last : goal.returns-in_err-read_slot-clause-last
returns-in_err-read_slot-clause-last g c = λ h.
    let d = c.args.self.now in let m = c.read_slot.new.self in
    still_last d m (g.met.P.DevicePair.few_blocks m.pair).0 (c.read_slot.ensures.honest.0 h)
    (c.read_slot.ensures.still h) (c.requires.quiet h)

pub returns-clause-last : goal.returns-clause-last
returns-clause-last g c = λ h.
    let d = c.args.self.now in let m = c.read_slot.new.self in
    let h1 = c.read_slot.ensures.honest.0 h in
    let still = c.read_slot.ensures.still h in
    last_then d m c.put_home.new.self (seen_still d m still) still.log.homes
    (still_last d m (g.met.P.DevicePair.few_blocks m.pair).0 h1 still (c.requires.quiet h))
    (c.put_home.ensures.last h1)

pub returns-in_err-read_slot-clause-only : goal.returns-in_err-read_slot-clause-only
returns-in_err-read_slot-clause-only g c = λ h.
    only_still _ c.args.self.now c.read_slot.new.self (c.read_slot.ensures.still h)

pub returns-clause-only : goal.returns-clause-only
returns-clause-only g c = λ h.
    let d = c.args.self.now in let m = c.read_slot.new.self in let e = c.put_home.new.self in
    let home = slice_index c.homes.result.now c.args.k in
    subst (λ (i : ℕ). WritesOnly i d e) (sym (c.is_newest.ensures.newest c.if-not-is_newest.false).home)
    (only_then home d m e (only_still home d m (c.read_slot.ensures.still h))
    (c.put_home.ensures.only (c.read_slot.ensures.honest.0 h)))
