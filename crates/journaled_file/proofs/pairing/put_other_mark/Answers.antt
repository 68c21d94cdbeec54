-- The mark is shown as the one before it.
use Rattle.std.proofs.Common.{◌∙◌, ap}
use Rattle.block_device.specs.Device.{written}
use Rattle.marked_pair.specs.Mark.{unmarked}
use Rattle.journaled_file.specs.FinishingLaws.{unmarked_again}
use Rattle.journaled_file.proofs.pairing.put_other_mark.Goals as goal

pub returns-clause-shown : goal.returns-clause-shown
returns-clause-shown g c = λ h m.
    let p = g.P.DevicePair in
    let h1 = c.read_base.ensures.honest.0 h in
    let h2 = c.write_base.ensures.honest.0 h1 in
    let mark = c.in_ok-mark.mark in
    ap unmarked (c.sync_base.ensures.base h2 ∙ c.in_ok-write_base.ensures.written h1
    ∙ ap (written 0 mark) (c.read_base.ensures.base h))
    ∙ unmarked_again mark (p.base c.args.pair.now) m c.in_ok-mark.ensures.marked
