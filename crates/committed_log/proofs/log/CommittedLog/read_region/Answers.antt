-- The region behind the others is found, and taken in.
use Rattle.std.proofs.Common.{Option, ℕ, Vec, length, subst, sym}
use Rattle.std.specs.Prelude.{IfSome}
use Rattle.committed_log.specs.Committed.{base_of, behind_of, journal_of, seen_of}
use Rattle.committed_log.specs.Log.{recovered}
use Rattle.committed_log.specs.Region.{HasSlots}
use Rattle.committed_log.specs.Regions.{committed_says}
use Rattle.committed_log.proofs.Keeping.{same_still}
use Rattle.committed_log.proofs.Making.{recovered_as}
use Rattle.committed_log.proofs.Reading.{back_as, back_then, durable_on, reads_back, still_recovers}
use Rattle.committed_log.proofs.Appending.{appends_still, appends_then}
use Rattle.committed_log.proofs.log.CommittedLog.read_region.Goals as goal

pub returns-in_default-clause-durable : goal.returns-in_default-clause-durable
returns-in_default-clause-durable g c = λ h.
    let d = c.args.self.now in let m = c.find_region.new.self in
    durable_on d m (same_still d m (c.find_region.ensures.still h)) (c.requires.durable h)

pub take_region-requires-clause-durable : goal.take_region-requires-clause-durable
take_region-requires-clause-durable g c = λ h1.
    let d = c.args.self.now in let m = c.find_region.new.self in
    let h = c.find_region.ensures.honest.1 h1 in
    durable_on d m (same_still d m (c.find_region.ensures.still h)) (c.requires.durable h)

pub returns-clause-durable : goal.returns-clause-durable
returns-clause-durable g c = λ h. c.in_ok-take_region.ensures.durable (c.find_region.ensures.honest.0 h)

pub returns-clause-said : goal.returns-clause-said
returns-clause-said g c = λ h e.
    let d = c.args.self.now in
    let has : HasSlots c.in-Some.homes.items (length (seen_of d)) (behind_of d) =
    subst (λ (r : Option (Vec ℕ g.row.A.Denot)).
    IfSome r (λ homes. HasSlots homes.items (length (seen_of d)) (behind_of d))) c.in-Some.is
    (c.in_ok-homes.ensures.some h) in
    committed_says (behind_of d) has.committed

pub returns-clause-stops : goal.returns-clause-stops
returns-clause-stops g c = λ h.
    let d = c.args.self.now in let m = c.find_region.new.self in let e = c.take_region.new.self in
    let p = g.P.DevicePair in
    let h1 = c.find_region.ensures.honest.0 h in
    let still = c.find_region.ensures.still h in
    let back = reads_back d (g.met.P.DevicePair.few_blocks d.pair).0 h
    (g.met.P.DevicePair.shown_counts d.pair h) in
    back_then p.moment p.left_since d.pair m.pair e.pair (recovered (base_of d) (journal_of d))
    (recovered (base_of m) (journal_of m))
    (recovered_as (base_of d) (base_of m) (journal_of d) (journal_of m) still.base still.journal)
    (back_as p.moment p.left_since d.pair m.pair (recovered (base_of d) (journal_of d))
    (recovered (seen_of d) (behind_of d)) (sym back)
    (still_recovers d m (g.met.P.DevicePair.few_blocks m.pair).0 h1 still (c.requires.durable h)))
    (c.take_region.ensures.stops h1)

pub returns-in_err-homes-clause-appends : goal.returns-in_err-homes-clause-appends
returns-in_err-homes-clause-appends g c = λ h.
    appends_still c.args.self.now c.find_region.new.self (c.find_region.ensures.still h)

pub returns-in_default-clause-appends : goal.returns-in_default-clause-appends
returns-in_default-clause-appends g c = λ h.
    appends_still c.args.self.now c.find_region.new.self (c.find_region.ensures.still h)

pub returns-in_err-take_region-clause-appends : goal.returns-in_err-take_region-clause-appends
returns-in_err-take_region-clause-appends g c = λ h.
    let d = c.args.self.now in let m = c.find_region.new.self in
    appends_then d m c.take_region.new.self (appends_still d m (c.find_region.ensures.still h))
    (c.take_region.ensures.appends (c.find_region.ensures.honest.0 h))

pub returns-clause-appends : goal.returns-clause-appends
returns-clause-appends g c = λ h.
    let d = c.args.self.now in let m = c.find_region.new.self in
    appends_then d m c.take_region.new.self (appends_still d m (c.find_region.ensures.still h))
    (c.take_region.ensures.appends (c.find_region.ensures.honest.0 h))
