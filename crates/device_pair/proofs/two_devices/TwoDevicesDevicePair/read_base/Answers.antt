-- A read of the base.
use Rattle.device_pair.proofs.BothSteps.{both_elapse}
use Rattle.device_pair.proofs.two_devices.TwoDevicesDevicePair.read_base.Goals as goal

pub returns-clause-time : goal.returns-clause-time
returns-clause-time g c = λ _.
    let d = c.args.self.now in
    both_elapse g.B.BlockDevice.may_leave g.J.BlockDevice.may_leave d.base c.read.new.self d.journal
    c.remember.new.self.journal d.past.taken c.remember.new.self.past.taken c.remember.ensures.taken
