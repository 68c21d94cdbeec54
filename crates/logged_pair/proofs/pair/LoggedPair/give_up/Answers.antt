-- A commit in progress is finished, appended blocks are synced, and the slots forgotten.
use Rattle.logged_pair.specs.Standing.{commits_of}
use Rattle.block_device.specs.Device.{BeginsOne}
use Rattle.logged_pair.proofs.GivingUp.{begins_given_up, commit_begins, keeps_appended, keeps_given_up}
use Rattle.logged_pair.proofs.Keeping.{keeps_weaker}
use Rattle.logged_pair.proofs.Stood.{on_any}
use Rattle.logged_pair.proofs.Snapped.{snapshots_then}
use Rattle.logged_pair.proofs.pair.LoggedPair.give_up.Goals as goal

pub returns-in_err-finish-clause-keeps : goal.returns-in_err-finish-clause-keeps
returns-in_err-finish-clause-keeps g c = λ h.
    let d = c.args.self.now in
    keeps_weaker (commits_of d) (BeginsOne (commits_of d)) d _ (commit_begins (commits_of d))
    (c.finish.ensures.keeps h)

pub returns-in_err-finish-clause-no_more : goal.returns-in_err-finish-clause-no_more
returns-in_err-finish-clause-no_more g c = λ h.
    on_any c.from_residual.result _ (c.finish.ensures.keeps h).now

pub returns-in_err-keep_appended-clause-no_more : goal.returns-in_err-keep_appended-clause-no_more
returns-in_err-keep_appended-clause-no_more g c = λ h.
    on_any c.from_residual-in_err-keep_appended.result _
    (λ k is. (c.finish.ensures.keeps h).now k
    (c.in_err-keep_appended.ensures.no_more (c.finish.ensures.honest.0 h) k is))

pub returns-in_err-keep_appended-clause-keeps : goal.returns-in_err-keep_appended-clause-keeps
returns-in_err-keep_appended-clause-keeps g c = λ h.
    keeps_appended c.args.self.now c.finish.new.self c.keep_appended.new.self (c.finish.ensures.keeps h)
    (c.keep_appended.ensures.keeps (c.finish.ensures.honest.0 h))

pub returns-clause-begins : goal.returns-clause-begins
returns-clause-begins g c = λ h.
    let d = c.args.self.now in let m = c.keep_appended.new.self in
    let h1 = c.finish.ensures.honest.0 h in
    begins_given_up (commits_of d) (commits_of m) _
    (keeps_appended d c.finish.new.self m (c.finish.ensures.keeps h) (c.keep_appended.ensures.keeps h1)).now
    (c.forget_slots.ensures.begins (c.keep_appended.ensures.honest.0 h1))

pub returns-clause-keeps : goal.returns-clause-keeps
returns-clause-keeps g c = λ h.
    let d = c.args.self.now in let m = c.keep_appended.new.self in
    let h1 = c.finish.ensures.honest.0 h in
    keeps_given_up (commits_of d) d m _
    (keeps_appended d c.finish.new.self m (c.finish.ensures.keeps h) (c.keep_appended.ensures.keeps h1))
    (c.forget_slots.ensures.keeps (c.keep_appended.ensures.honest.0 h1))

pub returns-in_err-keep_appended-clause-snapshots : goal.returns-in_err-keep_appended-clause-snapshots
returns-in_err-keep_appended-clause-snapshots g c = λ h.
    snapshots_then c.args.self.now c.finish.new.self c.keep_appended.new.self (c.finish.ensures.snapshots h)
    (c.keep_appended.ensures.snapshots (c.finish.ensures.honest.0 h))

pub returns-clause-snapshots : goal.returns-clause-snapshots
returns-clause-snapshots g c = λ h.
    let d = c.args.self.now in let f = c.finish.new.self in let m = c.keep_appended.new.self in
    let h1 = c.finish.ensures.honest.0 h in
    snapshots_then d m c.forget_slots.new.self
    (snapshots_then d f m (c.finish.ensures.snapshots h) (c.keep_appended.ensures.snapshots h1))
    (c.forget_slots.ensures.snapshots (c.keep_appended.ensures.honest.0 h1))
