-- A commit from the record of its region to the end.
use Rattle.std.proofs.Common.{◌≡◌, ◌∙◌, inl}
use Rattle.logged_pair.specs.Commits.{OrNew}
use Rattle.logged_pair.specs.Standing.{base_of, commits_of, deciding_of, homes_of, journal_of, kept_of}
use Rattle.logged_pair.specs.Standing.{shown_of, IsHonest, KeepsTo}
use Rattle.logged_pair.proofs.Keeping.{keeps_new, keeps_old, keeps_on, keeps_then, keeps_weaker, or_both}
use Rattle.logged_pair.proofs.Keeping.{or_more}
use Rattle.logged_pair.proofs.Reached.{reached, same_shown}
use Rattle.logged_pair.specs.Snapshots.{KeepsSnapshots}
use Rattle.logged_pair.proofs.Snapped.{snapshots_then}
use Rattle.logged_pair.proofs.pair.LoggedPair.commit_now.Given as given
use Rattle.logged_pair.proofs.pair.LoggedPair.commit_now.Goals as goal
use Rattle.logged_pair.proofs.pair.LoggedPair.commit_now.Goals.{After-prepare}

-- what is kept to once it is prepared
prepared_so : (g : given.Over) (c : After-prepare g) → IsHonest c.args.self.now
    → KeepsTo (OrNew (commits_of c.args.self.now) (shown_of c.args.self.now)) c.args.self.now c.prepare.new.self
prepared_so g c h =
    let d = c.args.self.now in let r = c.record.new.self in let p = c.prepare.new.self in
    let recorded = c.record.ensures.keeps h in
    keeps_then (OrNew (commits_of d) (shown_of d)) (OrNew (commits_of r) (shown_of r)) d r p
    (or_both (commits_of d) (commits_of r) (shown_of d) (shown_of r) recorded.now (c.record.ensures.shown h))
    (keeps_weaker (commits_of d) (OrNew (commits_of d) (shown_of d)) d r (or_more (commits_of d) (shown_of d))
    recorded)
    (c.prepare.ensures.keeps (c.record.ensures.honest.0 h))

shown_so : (g : given.Over) (c : After-prepare g) → IsHonest c.args.self.now
    → shown_of c.prepare.new.self ≡ shown_of c.args.self.now
shown_so g c h = c.prepare.ensures.shown (c.record.ensures.honest.0 h) ∙ c.record.ensures.shown h

pub returns-in_err-record-clause-keeps : goal.returns-in_err-record-clause-keeps
returns-in_err-record-clause-keeps g c = λ h. keeps_old c.args.self.now c.record.new.self (c.record.ensures.keeps h)

pub returns-in_err-record-clause-commits : goal.returns-in_err-record-clause-commits
returns-in_err-record-clause-commits g c = λ h kept is. inl ((c.record.ensures.keeps h).now kept is)

pub returns-in_err-prepare-clause-shown : goal.returns-in_err-prepare-clause-shown
returns-in_err-prepare-clause-shown g c = λ h.
    shown_so g (goal.at.returns-in_err-prepare-clause-shown g c).After-prepare h

pub returns-in_err-prepare-clause-commits : goal.returns-in_err-prepare-clause-commits
returns-in_err-prepare-clause-commits g c = λ h kept is.
    (prepared_so g (goal.at.returns-in_err-prepare-clause-commits g c).After-prepare h).now kept is

pub returns-in_err-prepare-clause-keeps : goal.returns-in_err-prepare-clause-keeps
returns-in_err-prepare-clause-keeps g c = λ h.
    let d = c.args.self.now in let r = c.record.new.self in let p = c.prepare.new.self in
    keeps_old d p
    (keeps_on (commits_of d) d r p (c.record.ensures.keeps h)
    (c.in_err-prepare.ensures.refused (c.record.ensures.honest.0 h)))

pub returns-clause-shown : goal.returns-clause-shown
returns-clause-shown g c = λ h.
    c.decide.ensures.shown (c.prepare.ensures.honest.0 (c.record.ensures.honest.0 h))
    ∙ shown_so g (goal.at.returns-clause-shown g c).After-prepare h

pub returns-clause-durable : goal.returns-clause-durable
returns-clause-durable g c = λ h.
    same_shown c.decide.result (commits_of c.decide.new.self) (shown_of c.prepare.new.self)
    (shown_of c.args.self.now) (shown_so g (goal.at.returns-clause-durable g c).After-prepare h)
    (c.decide.ensures.durable (c.prepare.ensures.honest.0 (c.record.ensures.honest.0 h)))

pub returns-clause-commits : goal.returns-clause-commits
returns-clause-commits g c = λ h kept is.
    (prepared_so g (goal.at.returns-clause-commits g c).After-prepare h).now kept
    ((c.decide.ensures.keeps (c.prepare.ensures.honest.0 (c.record.ensures.honest.0 h))).now kept is)

pub returns-clause-keeps : goal.returns-clause-keeps
returns-clause-keeps g c = λ h.
    let d = c.args.self.now in let p = c.prepare.new.self in let e = c.decide.new.self in
    let at = (goal.at.returns-clause-keeps g c).After-prepare in
    let hp = c.prepare.ensures.honest.0 (c.record.ensures.honest.0 h) in
    let s = shown_of d in
    let y = prepared_so g at h in
    let z : KeepsTo (OrNew (commits_of d) s) d e =
    keeps_then (OrNew (commits_of d) s) (commits_of p) d p e y.now y (c.decide.ensures.keeps hp) in
    let same = shown_so g at h in
    keeps_new s d e
    (reached c.decide.result (deciding_of e) (kept_of e) (homes_of e) (base_of e) (journal_of e) s
    c.decide.ensures.done c.decide.ensures.going_on
    (same_shown c.decide.result _ _ _ same (c.decide.ensures.durable hp))
    (c.decide.ensures.shown hp ∙ same))
    z

prepared_snaps : (g : given.Over) (c : After-prepare g) → IsHonest c.args.self.now
    → KeepsSnapshots c.args.self.now c.prepare.new.self
prepared_snaps g c h =
    snapshots_then c.args.self.now c.record.new.self c.prepare.new.self (c.record.ensures.snapshots h)
    (c.prepare.ensures.snapshots (c.record.ensures.honest.0 h))

pub returns-in_err-prepare-clause-snapshots : goal.returns-in_err-prepare-clause-snapshots
returns-in_err-prepare-clause-snapshots g c = λ h.
    prepared_snaps g (goal.at.returns-in_err-prepare-clause-snapshots g c).After-prepare h

pub returns-clause-snapshots : goal.returns-clause-snapshots
returns-clause-snapshots g c = λ h.
    snapshots_then c.args.self.now c.prepare.new.self c.decide.new.self
    (prepared_snaps g (goal.at.returns-clause-snapshots g c).After-prepare h)
    (c.decide.ensures.snapshots (c.prepare.ensures.honest.0 (c.record.ensures.honest.0 h)))

pub returns-clause-new_snapshot : goal.returns-clause-new_snapshot
returns-clause-new_snapshot g c = λ h.
    c.decide.ensures.new_snapshot (c.prepare.ensures.honest.0 (c.record.ensures.honest.0 h))
