-- What a read gave stands after what was read before.
use Rattle.std.proofs.Common.{◌-◌, arith}
use Rattle.file_device.proofs.Consumed.{read_more}
use Rattle.file_device.proofs.host.read_on.Goals as goal

pub returns-in-Ok-clause-so_far : goal.returns-in-Ok-clause-so_far
returns-in-Ok-clause-so_far g c = λ known before.
    read_more known _ _ c.args.done.now (4096 - c.args.done.now) c.in-Ok.n c.args.into.now c.read.new.buf
    (omega arith) (omega (arith, c.in-Ok.ensures.bound.0)) before c.in-Ok.ensures.bytes.0
