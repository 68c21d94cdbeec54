-- A write, as it is shown.
use Rattle.marked_pair.specs.ShownLaws.{shown_base_follows}
use Rattle.marked_pair.proofs.pair.calls.MarkedPairDevicePair.write_base.Goals as goal

pub returns-clause-stops : goal.returns-clause-stops
returns-clause-stops g c = λ h.
    let p = g.P.DevicePair in
    shown_base_follows c.args.i (p.may_leave c.args.self.now.pair) (p.may_leave c.write_block.new.self.pair)
    (c.write_block.ensures.tears h).stops
