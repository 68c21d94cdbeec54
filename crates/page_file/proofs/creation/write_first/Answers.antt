-- The goals of `write_first` that are proved by hand.
use Rattle.std.proofs.Common.{arith}
use Rattle.block_device.specs.Moments.{leaves_weaker}
use Rattle.page_file.specs.Opening.{IsRefused}
use Rattle.page_file.specs.Gated.{few_refused}
use Rattle.page_file.proofs.creation.write_first.Goals as goal

pub returns-clause-stops : goal.returns-clause-stops
returns-clause-stops g c = λ h. let d = g.D.BlockDevice in
    leaves_weaker d.moment d.left_since d.recovery c.args.device.now c.write_gate.new.device _ IsRefused
    (λ e from. few_refused from.0 e
    (omega (arith, c.requires, g.met.D.BlockDevice.no_longer c.args.device.now from.0 h from.1)) from.2)
    (c.write_gate.ensures.stops h)
