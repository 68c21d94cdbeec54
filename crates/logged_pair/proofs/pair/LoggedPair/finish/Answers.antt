-- A log that is begun anew is ended, and a commit gone on with.
use Rattle.std.proofs.Common.{◌∙◌, sym}
use Rattle.logged_pair.specs.Standing.{commits_of}
use Rattle.logged_pair.proofs.Keeping.{keeps_on}
use Rattle.logged_pair.proofs.Snapped.{snaps_never}
use Rattle.logged_pair.proofs.pair.LoggedPair.finish.Goals as goal

pub returns-clause-shown : goal.returns-clause-shown
returns-clause-shown g c = λ h.
    c.go_on-2.ensures.shown (c.settle_log.ensures.honest.0 h) ∙ c.settle_log.ensures.shown h

pub returns-clause-none : goal.returns-clause-none
returns-clause-none g c = λ none. c.go_on-2.ensures.none (c.settle_log.ensures.homes ∙ none)

pub returns-clause-keeps : goal.returns-clause-keeps
returns-clause-keeps g c = λ h.
    let d = c.args.self.now in
    keeps_on (commits_of d) d c.settle_log.new.self c.go_on-2.new.self (c.settle_log.ensures.keeps h)
    (c.go_on-2.ensures.keeps (c.settle_log.ensures.honest.0 h))

pub returns-in_err-settle_log-clause-snapshots : goal.returns-in_err-settle_log-clause-snapshots
returns-in_err-settle_log-clause-snapshots g c = λ h.
    snaps_never c.args.self.now.kept _ c.args.self.now.log _
    (sym c.is_clearing.ensures ∙ c.if-not-is_clearing.false)

pub returns-clause-snapshots : goal.returns-clause-snapshots
returns-clause-snapshots g c = λ h.
    snaps_never c.args.self.now.kept _ c.args.self.now.log _
    (sym c.is_clearing.ensures ∙ c.if-not-is_clearing.false)
