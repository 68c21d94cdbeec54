-- The new journal has the title and the end of the older one, and a region that is committed.
use Rattle.std.proofs.Common.{◌∙◌, subst, sym}
use Rattle.journaled_file.specs.FinishingLaws.{anew_own}
use Rattle.journaled_file.proofs.pairing.beside_anew.Goals as goal

pub returns-clause-own : goal.returns-clause-own
returns-clause-own g c = λ h k a own.
    let front = c.in_ok-front.ensures in
    let before = c.in_ok-pair.ensures.honest.0 (c.front_of.ensures.honest.0 h) in
    let base =
    subst g.B.BlockDevice.honest (sym (c.of-pair.ensures.base ∙ c.into_devices-base.ensures.base)) before.0 in
    let copy = subst g.K.BlockDevice.honest (sym c.of-pair.ensures.journal) k in
    anew_own a (g.J.BlockDevice.shown c.args.pair.journal) (g.K.BlockDevice.shown c.put_anew.new.pair.journal)
    c.in_ok-front.front.title c.in_ok-front.front.end (front.title h) (front.end h)
    (c.in_ok-put_anew.ensures.front (base, copy)) own
