-- A commit that has begun is finished first.
use Rattle.std.proofs.Common.{◌∙◌, inl}
use Rattle.logged_pair.specs.Standing.{commits_of, shown_of}
use Rattle.logged_pair.proofs.Keeping.{keeps_either, keeps_old, or_both}
use Rattle.logged_pair.proofs.Reached.{same_shown}
use Rattle.logged_pair.proofs.Snapped.{snapshots_then}
use Rattle.logged_pair.proofs.pair.LoggedPair.commit.Goals as goal

pub returns-in_err-finish-clause-keeps : goal.returns-in_err-finish-clause-keeps
returns-in_err-finish-clause-keeps g c = λ h.
    keeps_old c.args.self.now c.finish.new.self (c.finish.ensures.keeps h)

pub returns-in_err-finish-clause-commits : goal.returns-in_err-finish-clause-commits
returns-in_err-finish-clause-commits g c = λ h kept is. inl ((c.finish.ensures.keeps h).now kept is)

pub returns-clause-shown : goal.returns-clause-shown
returns-clause-shown g c = λ h.
    c.commit_now.ensures.shown (c.finish.ensures.honest.0 h) ∙ c.finish.ensures.shown h

pub returns-clause-durable : goal.returns-clause-durable
returns-clause-durable g c = λ h.
    same_shown c.commit_now.result (commits_of c.commit_now.new.self) (shown_of c.finish.new.self)
    (shown_of c.args.self.now) (c.finish.ensures.shown h)
    (c.commit_now.ensures.durable (c.finish.ensures.honest.0 h))

pub returns-clause-commits : goal.returns-clause-commits
returns-clause-commits g c = λ h kept is.
    or_both (commits_of c.args.self.now) (commits_of c.finish.new.self) (shown_of c.args.self.now)
    (shown_of c.finish.new.self) (c.finish.ensures.keeps h).now (c.finish.ensures.shown h) kept
    (c.commit_now.ensures.commits (c.finish.ensures.honest.0 h) kept is)

pub returns-clause-keeps : goal.returns-clause-keeps
returns-clause-keeps g c = λ h.
    keeps_either c.args.self.now c.finish.new.self c.commit_now.new.self (c.finish.ensures.keeps h)
    (c.commit_now.ensures.keeps (c.finish.ensures.honest.0 h))

pub returns-clause-snapshots : goal.returns-clause-snapshots
returns-clause-snapshots g c = λ h.
    snapshots_then c.args.self.now c.finish.new.self c.commit_now.new.self (c.finish.ensures.snapshots h)
    (c.commit_now.ensures.snapshots (c.finish.ensures.honest.0 h))

pub returns-clause-new_snapshot : goal.returns-clause-new_snapshot
returns-clause-new_snapshot g c = λ h.
    c.commit_now.ensures.new_snapshot (c.finish.ensures.honest.0 h)
