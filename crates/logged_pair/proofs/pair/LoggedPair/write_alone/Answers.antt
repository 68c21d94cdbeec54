-- A long log is copied home, and a commit that has begun is finished, first.
use Rattle.std.proofs.Common.{◌≡◌, ◌∙◌, ap, inl, subst}
use Rattle.block_device.specs.Device.{Blocks, Torn, written}
use Rattle.logged_pair.specs.Standing.{IsHonest, KeepsTo, commits_of, shown_of}
use Rattle.logged_pair.proofs.Keeping.{keeps_on}
use Rattle.logged_pair.proofs.Stood.{on_any, on_err, on_ok}
use Rattle.logged_pair.proofs.pair.LoggedPair.write_alone.Given as given
use Rattle.logged_pair.proofs.pair.LoggedPair.write_alone.Goals as goal
use Rattle.logged_pair.proofs.pair.LoggedPair.write_alone.Goals.{After-finish}

shown_so : (g : given.Over) (c : After-finish g) → IsHonest c.args.self.now
    → shown_of c.finish.new.self ≡ shown_of c.args.self.now
shown_so g c h = c.finish.ensures.shown (c.copy_long.ensures.honest.0 h) ∙ c.copy_long.ensures.shown h

keeps_so : (g : given.Over) (c : After-finish g) → IsHonest c.args.self.now
    → KeepsTo (commits_of c.args.self.now) c.args.self.now c.finish.new.self
keeps_so g c h =
    keeps_on (commits_of c.args.self.now) c.args.self.now c.copy_long.new.self c.finish.new.self
    (c.copy_long.ensures.keeps h) (c.finish.ensures.keeps (c.copy_long.ensures.honest.0 h))

pub returns-in_err-copy_long-clause-torn : goal.returns-in_err-copy_long-clause-torn
returns-in_err-copy_long-clause-torn g c = λ h. on_any _ _ (inl (c.copy_long.ensures.shown h))

pub returns-in_err-finish-clause-torn : goal.returns-in_err-finish-clause-torn
returns-in_err-finish-clause-torn g c = λ h.
    on_any _ _ (inl (shown_so g (goal.at.returns-in_err-finish-clause-torn g c).After-finish h))

pub returns-in_err-finish-clause-keeps : goal.returns-in_err-finish-clause-keeps
returns-in_err-finish-clause-keeps g c = λ h.
    keeps_so g (goal.at.returns-in_err-finish-clause-keeps g c).After-finish h

pub returns-clause-written : goal.returns-clause-written
returns-clause-written g c = λ h.
    on_ok c.write_now.result _ _
    (λ (w : shown_of c.write_now.new.self ≡ written c.args.i c.args.bytes.now (shown_of c.finish.new.self)).
    w ∙ ap (written c.args.i c.args.bytes.now) (shown_so g (goal.at.returns-clause-written g c).After-finish h))
    (c.write_now.ensures.written (c.finish.ensures.honest.0 (c.copy_long.ensures.honest.0 h)))

pub returns-clause-torn : goal.returns-clause-torn
returns-clause-torn g c = λ h.
    on_err c.write_now.result _ _
    (λ (t : Torn c.args.i (shown_of c.finish.new.self) (shown_of c.write_now.new.self)).
    subst (λ (x : Blocks). Torn c.args.i x (shown_of c.write_now.new.self))
    (shown_so g (goal.at.returns-clause-torn g c).After-finish h) t)
    (c.write_now.ensures.torn (c.finish.ensures.honest.0 (c.copy_long.ensures.honest.0 h)))

pub returns-clause-keeps : goal.returns-clause-keeps
returns-clause-keeps g c = λ h.
    let d = c.args.self.now in
    keeps_on (commits_of d) d c.finish.new.self c.write_now.new.self
    (keeps_so g (goal.at.returns-clause-keeps g c).After-finish h)
    (c.write_now.ensures.keeps (c.finish.ensures.honest.0 (c.copy_long.ensures.honest.0 h)))
