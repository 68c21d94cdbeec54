-- A sync of the journal.
use Rattle.device_pair.proofs.BothSteps.{both_elapse}
use Rattle.device_pair.proofs.two_devices.TwoDevicesDevicePair.sync_journal.Goals as goal

pub returns-clause-time : goal.returns-clause-time
returns-clause-time g c = λ _.
    let d = c.args.self.now in
    both_elapse g.B.BlockDevice.may_leave g.J.BlockDevice.may_leave d.base c.remember.new.self.base d.journal
    c.sync.new.self d.past.taken c.remember.new.self.past.taken c.remember.ensures.taken
