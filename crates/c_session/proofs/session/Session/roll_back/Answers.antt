-- The session has a store again, or its device is left.
use Rattle.c_session.proofs.RollingBack.{came_back, was_left}
use Rattle.c_session.proofs.session.Session.roll_back.Goals as goal

pub returns-in-Ok : goal.returns-in-Ok
returns-in-Ok g c =
    came_back c.args.self.now c.take_device.new.self c.in-Some.device c.in-Ok.store
    c.take_device.ensures.session.0 c.if-self.false c.in-Some.ensures.device c.take_device.ensures.session.1
    c.in-Ok.ensures.back

pub returns-in-Err : goal.returns-in-Err
returns-in-Err g c =
    was_left c.args.self.now c.take_device.new.self c.in-Some.device c.in-Err.refusal c.in-Err.device
    c.take_device.ensures.session.0 _ _ c.if-self.false c.in-Some.ensures.device
    c.take_device.ensures.session.1 c.in-Err.ensures.left c.tell.ensures.detail c.tell.ensures.number
