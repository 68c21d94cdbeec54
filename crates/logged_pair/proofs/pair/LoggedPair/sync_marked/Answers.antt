-- A sync that marks the base, whether opening takes what is read or not.
use Rattle.std.proofs.Common.{◌∙◌}
use Rattle.page_file.specs.Opening.{failed_check}
use Rattle.logged_pair.specs.Commits.{OrOpened}
use Rattle.logged_pair.specs.Snapshots.{KeepsReaders}
use Rattle.logged_pair.specs.Standing.{KeepsTo, IsHonest, commits_of, pair_of, shown_of}
use Rattle.logged_pair.proofs.Calling.{keeps_committed, keeps_opened, none_from, not_none}
use Rattle.logged_pair.proofs.Keeping.{keeps_on, shown_still}
use Rattle.logged_pair.proofs.Snapped.{readers_then, snapshots_still}
use Rattle.logged_pair.proofs.Stood.{on_either}
use Rattle.logged_pair.proofs.pair.LoggedPair.sync_marked.Given as given
use Rattle.logged_pair.proofs.pair.LoggedPair.sync_marked.Goals as goal
use Rattle.logged_pair.proofs.pair.LoggedPair.sync_marked.Goals.{After-commit}

-- no commit
pub returns-in_err-is_taken-clause-shown : goal.returns-in_err-is_taken-clause-shown
returns-in_err-is_taken-clause-shown g c =
    λ h. shown_still c.args.self.now c.is_taken.new.self (c.is_taken.ensures.still h)

pub returns-in_err-is_taken-clause-keeps : goal.returns-in_err-is_taken-clause-keeps
returns-in_err-is_taken-clause-keeps g c =
    λ h. keeps_opened c.args.self.now c.is_taken.new.self
    (g.met.P.DevicePair.few_blocks (pair_of c.is_taken.new.self)).0 (c.is_taken.ensures.honest.0 h)
    (c.is_taken.ensures.still h)

pub returns-then-not-branch-clause-shown : goal.returns-then-not-branch-clause-shown
returns-then-not-branch-clause-shown g c =
    λ h. shown_still c.args.self.now c.is_taken.new.self (c.is_taken.ensures.still h)

pub returns-then-not-branch-clause-durable : goal.returns-then-not-branch-clause-durable
returns-then-not-branch-clause-durable g c =
    λ h taken. absurd
    (not_none (failed_check (shown_of c.args.self.now))
    (c.in_ok-is_taken.ensures.is h ∙ c.if-not-branch.true) taken)

pub returns-then-not-branch-clause-settled : goal.returns-then-not-branch-clause-settled
returns-then-not-branch-clause-settled g c =
    λ h taken. absurd
    (not_none (failed_check (shown_of c.args.self.now))
    (c.in_ok-is_taken.ensures.is h ∙ c.if-not-branch.true) taken)

pub returns-then-not-branch-clause-keeps : goal.returns-then-not-branch-clause-keeps
returns-then-not-branch-clause-keeps g c =
    λ h. keeps_opened c.args.self.now c.is_taken.new.self
    (g.met.P.DevicePair.few_blocks (pair_of c.is_taken.new.self)).0 (c.is_taken.ensures.honest.0 h)
    (c.is_taken.ensures.still h)

-- a commit
committed_so : (g : given.Over) (c : After-commit g) → IsHonest c.args.self.now
    → KeepsTo (OrOpened (commits_of c.args.self.now) (shown_of c.args.self.now)) c.args.self.now c.commit.new.self
committed_so g c h =
    let d = c.args.self.now in let e = c.is_taken.new.self in
    let hm = c.is_taken.ensures.honest.0 h in
    keeps_committed d e c.commit.new.self (g.met.P.DevicePair.few_blocks (pair_of e)).0 hm (c.is_taken.ensures.still h)
    (none_from (failed_check (shown_of d)) (c.in_ok-is_taken.ensures.is h ∙ c.if-not-branch.false))
    (c.commit.ensures.commits hm) (c.commit.ensures.keeps hm)

pub returns-in_err-commit-clause-shown : goal.returns-in_err-commit-clause-shown
returns-in_err-commit-clause-shown g c = λ h. c.commit.ensures.shown (c.is_taken.ensures.honest.0 h)
    ∙ shown_still c.args.self.now c.is_taken.new.self (c.is_taken.ensures.still h)

pub returns-in_err-commit-clause-keeps : goal.returns-in_err-commit-clause-keeps
returns-in_err-commit-clause-keeps g c = λ h.
    committed_so g (goal.at.returns-in_err-commit-clause-keeps g c).After-commit h

-- and the copies
pub returns-clause-shown : goal.returns-clause-shown
returns-clause-shown g c = λ h.
    let hm = c.is_taken.ensures.honest.0 h in
    c.mark.ensures.shown (c.commit.ensures.honest.0 hm) ∙ c.commit.ensures.shown hm
    ∙ shown_still c.args.self.now c.is_taken.new.self (c.is_taken.ensures.still h)

pub returns-clause-durable : goal.returns-clause-durable
returns-clause-durable g c = λ h taken.
    let hm = c.is_taken.ensures.honest.0 h in
    on_either c.mark.result _ (λ kept is.
    c.in_ok-commit.ensures.durable hm kept
    ((c.mark.ensures.keeps (c.commit.ensures.honest.0 hm)).now kept is)
    ∙ shown_still c.args.self.now c.is_taken.new.self (c.is_taken.ensures.still h))

pub returns-clause-settled : goal.returns-clause-settled
returns-clause-settled g c = λ h taken.
    let hm = c.is_taken.ensures.honest.0 h in
    c.mark.ensures.settled (c.commit.ensures.honest.0 hm) (c.in_ok-commit.ensures.settled hm)

pub returns-clause-keeps : goal.returns-clause-keeps
returns-clause-keeps g c = λ h.
    let d = c.args.self.now in let hm = c.is_taken.ensures.honest.0 h in
    keeps_on (OrOpened (commits_of d) (shown_of d)) d c.commit.new.self c.mark.new.self
    (committed_so g (goal.at.returns-clause-keeps g c).After-commit h)
    (c.mark.ensures.keeps (c.commit.ensures.honest.0 hm))

-- readers
pub returns-in_err-is_taken-clause-readers : goal.returns-in_err-is_taken-clause-readers
returns-in_err-is_taken-clause-readers g c = λ h none.
    snapshots_still c.args.self.now c.is_taken.new.self (c.is_taken.ensures.still h) 1

pub returns-then-not-branch-clause-readers : goal.returns-then-not-branch-clause-readers
returns-then-not-branch-clause-readers g c = λ h none.
    snapshots_still c.args.self.now c.is_taken.new.self (c.is_taken.ensures.still h) 1

readers_so : (g : given.Over) (c : After-commit g) → IsHonest c.args.self.now
    → KeepsReaders c.args.self.now c.commit.new.self
readers_so g c h =
    let d = c.args.self.now in let e = c.is_taken.new.self in
    readers_then d e c.commit.new.self (snapshots_still d e (c.is_taken.ensures.still h) 1)
    (c.commit.ensures.snapshots (c.is_taken.ensures.honest.0 h) 1)

pub returns-in_err-commit-clause-readers : goal.returns-in_err-commit-clause-readers
returns-in_err-commit-clause-readers g c = λ h none.
    readers_so g (goal.at.returns-in_err-commit-clause-readers g c).After-commit h

pub returns-clause-readers : goal.returns-clause-readers
returns-clause-readers g c = λ h none.
    let hc = c.commit.ensures.honest.0 (c.is_taken.ensures.honest.0 h) in
    readers_then c.args.self.now c.commit.new.self c.mark.new.self
    (readers_so g (goal.at.returns-clause-readers g c).After-commit h) (c.mark.ensures.readers hc none)
