-- One region after the other is taken in.
use Rattle.std.proofs.Common.{◌∙◌, inr, rules}
use Rattle.committed_log.specs.Committed.{behind_of, journal_of}
use Rattle.committed_log.proofs.Reading.{TakenTo, journal_on, taken_end, taken_last, taken_malformed}
use Rattle.committed_log.proofs.Reading.{taken_more, taken_stops}
use Rattle.committed_log.proofs.Appending.{appends_then}
use Rattle.committed_log.proofs.log.CommittedLog.read_regions.Given as given
use Rattle.committed_log.proofs.log.CommittedLog.read_regions.Goals as goal
use Rattle.committed_log.proofs.log.CommittedLog.read_regions.Goals.{Else-branch}

pub regions-preserved : goal.regions-preserved
regions-preserved g c =
    let d = c.args.self.now in let m = c.regions.self in let e = c.read_region.new.self in
    let inv = c.regions.invariant in let is = c.in_ok-read_region.ensures in
    taken_more (λ x. (g.met.P.DevicePair.few_blocks x).0) g.met.P.DevicePair.shown_counts d m e inv
    is.settled is.honest is.durable is.base is.seen is.stops
    (λ h. let h1 = inv.honest.0 h in
    journal_on (journal_of d) (journal_of m) (journal_of e) (behind_of m) (behind_of e) (inv.journal h)
    (is.said h1 c.if-branch.true) (is.journal h1)) is.appends

-- none is left
taken_so : (g : given.Over) (c : Else-branch g) → TakenTo c.args.self.now c.read_region.new.self
taken_so g c =
    let d = c.args.self.now in let m = c.regions.self in let e = c.read_region.new.self in
    let inv = c.regions.invariant in let is = c.in_ok-read_region.ensures in
    taken_more (λ x. (g.met.P.DevicePair.few_blocks x).0) g.met.P.DevicePair.shown_counts d m e inv
    is.settled is.honest is.durable is.base is.seen is.stops
    (λ h. inr (is.unsaid (inv.honest.0 h) c.if-branch.false)) is.appends

pub returns-in_err-read_region-clause-stops : goal.returns-in_err-read_region-clause-stops
returns-in_err-read_region-clause-stops g c = λ h.
    let inv = c.regions.invariant in
    taken_stops (λ x. (g.met.P.DevicePair.few_blocks x).0) g.met.P.DevicePair.shown_counts c.args.self.now
    c.regions.self c.read_region.new.self.pair inv h (c.read_region.ensures.stops (inv.honest.0 h))

pub returns-in_err-read_region-clause-malformed : goal.returns-in_err-read_region-clause-malformed
returns-in_err-read_region-clause-malformed g c = λ h e.
    let inv = c.regions.invariant in
    taken_malformed c.args.self.now c.regions.self inv h
    (c.in_err-read_region.ensures.malformed (inv.honest.0 h) (search rules))

pub add_count-requires-clause-durable : goal.add_count-requires-clause-durable
add_count-requires-clause-durable g c = λ h.
    (taken_so g (goal.at.add_count-requires-clause-durable g c).Else-branch).durable h

pub returns-in_err-add_count-clause-stops : goal.returns-in_err-add_count-clause-stops
returns-in_err-add_count-clause-stops g c = λ h.
    let taken = taken_so g (goal.at.returns-in_err-add_count-clause-stops g c).Else-branch in
    let h1 = c.regions.invariant.honest.0 h in
    taken_last (λ x. (g.met.P.DevicePair.few_blocks x).0) g.met.P.DevicePair.shown_counts c.args.self.now
    c.read_region.new.self c.add_count.new.self.pair taken h
    (c.in_ok-read_region.ensures.unsaid h1 c.if-branch.false)
    (c.add_count.ensures.stops (taken.honest.0 h))

pub returns-clause-seen : goal.returns-clause-seen
returns-clause-seen g c = λ h.
    let taken = taken_so g (goal.at.returns-clause-seen g c).Else-branch in
    let h1 = c.regions.invariant.honest.0 h in
    c.add_count.ensures.seen (taken.honest.0 h)
    ∙ taken_end c.args.self.now c.read_region.new.self taken h
    (c.in_ok-read_region.ensures.unsaid h1 c.if-branch.false)

pub returns-clause-durable : goal.returns-clause-durable
returns-clause-durable g c = λ h.
    let taken = taken_so g (goal.at.returns-clause-durable g c).Else-branch in
    c.in_ok-add_count.ensures.durable (taken.honest.0 h)

pub returns-clause-stops : goal.returns-clause-stops
returns-clause-stops g c = λ h.
    let taken = taken_so g (goal.at.returns-clause-stops g c).Else-branch in
    let h1 = c.regions.invariant.honest.0 h in
    taken_last (λ x. (g.met.P.DevicePair.few_blocks x).0) g.met.P.DevicePair.shown_counts c.args.self.now
    c.read_region.new.self c.add_count.new.self.pair taken h
    (c.in_ok-read_region.ensures.unsaid h1 c.if-branch.false)
    (c.add_count.ensures.stops (taken.honest.0 h))

pub returns-in_err-read_region-clause-appends : goal.returns-in_err-read_region-clause-appends
returns-in_err-read_region-clause-appends g c = λ h.
    let inv = c.regions.invariant in
    appends_then c.args.self.now c.regions.self c.read_region.new.self (inv.appends h)
    (c.read_region.ensures.appends (inv.honest.0 h))

pub returns-in_err-add_count-clause-appends : goal.returns-in_err-add_count-clause-appends
returns-in_err-add_count-clause-appends g c = λ h.
    let taken = taken_so g (goal.at.returns-in_err-add_count-clause-appends g c).Else-branch in
    appends_then c.args.self.now c.read_region.new.self c.add_count.new.self (taken.appends h)
    (c.add_count.ensures.appends (taken.honest.0 h))

pub returns-clause-appends : goal.returns-clause-appends
returns-clause-appends g c = λ h.
    let taken = taken_so g (goal.at.returns-clause-appends g c).Else-branch in
    appends_then c.args.self.now c.read_region.new.self c.add_count.new.self (taken.appends h)
    (c.add_count.ensures.appends (taken.honest.0 h))
