-- A commit that has begun is finished first.
use Rattle.std.proofs.Common.{◌≡◌, ◌∙◌, ap, inl, subst}
use Rattle.block_device.specs.Device.{Blocks, Torn, written}
use Rattle.logged_pair.specs.Standing.{commits_of, shown_of}
use Rattle.logged_pair.proofs.Keeping.{keeps_on}
use Rattle.logged_pair.proofs.Snapped.{snapshots_then}
use Rattle.logged_pair.proofs.Stood.{on_any, on_err, on_ok}
use Rattle.logged_pair.proofs.pair.LoggedPair.write.Goals as goal

pub returns-in_err-finish-clause-torn : goal.returns-in_err-finish-clause-torn
returns-in_err-finish-clause-torn g c = λ h. on_any _ _ (inl (c.finish.ensures.shown h))

pub returns-clause-written : goal.returns-clause-written
returns-clause-written g c = λ h.
    on_ok c.write_now.result _ _
    (λ (w : shown_of c.write_now.new.self ≡ written c.args.i c.args.bytes.now (shown_of c.finish.new.self)).
    w ∙ ap (written c.args.i c.args.bytes.now) (c.finish.ensures.shown h))
    (c.write_now.ensures.written (c.finish.ensures.honest.0 h))

pub returns-clause-torn : goal.returns-clause-torn
returns-clause-torn g c = λ h.
    on_err c.write_now.result _ _
    (λ (t : Torn c.args.i (shown_of c.finish.new.self) (shown_of c.write_now.new.self)).
    subst (λ (x : Blocks). Torn c.args.i x (shown_of c.write_now.new.self)) (c.finish.ensures.shown h) t)
    (c.write_now.ensures.torn (c.finish.ensures.honest.0 h))

pub returns-clause-keeps : goal.returns-clause-keeps
returns-clause-keeps g c = λ h.
    let d = c.args.self.now in
    keeps_on (commits_of d) d c.finish.new.self c.write_now.new.self (c.finish.ensures.keeps h)
    (c.write_now.ensures.keeps (c.finish.ensures.honest.0 h))

pub returns-clause-snapshots : goal.returns-clause-snapshots
returns-clause-snapshots g c = λ h.
    snapshots_then c.args.self.now c.finish.new.self c.write_now.new.self (c.finish.ensures.snapshots h)
    (c.write_now.ensures.snapshots (c.finish.ensures.honest.0 h))
