-- What is home is read of the base alone.
use Rattle.std.proofs.Common.{◌∙◌, ap, subst, sym}
use Rattle.block_device.specs.Device.{BeginsOne}
use Rattle.journaled_device.specs.Journaled.{inner_of}
use Rattle.logged_pair.specs.Standing.{commits_of}
use Rattle.marked_pair.specs.Mark.{unmarked}
use Rattle.journaled_file.proofs.end.brought_home.Goals as goal

pub returns-clause-begins : goal.returns-clause-begins
returns-clause-begins g c = λ h.
    let new = inner_of c.bring_home.new.self in
    let h2 = c.forget.ensures.honest.0 h in
    subst (BeginsOne (commits_of (inner_of c.args.device)))
    (sym (c.bring_home.ensures.shown h2)
    ∙ c.what_is_home_is_the_base.ensures new c.bring_home.ensures.none
    (c.in_ok-bring_home.ensures.done c.if-not-branch.false)
    ∙ ap (λ x. unmarked (g.P.DevicePair.base x)) (sym c.parts_under.ensures))
    (c.in_ok-forget.ensures.begins h)
