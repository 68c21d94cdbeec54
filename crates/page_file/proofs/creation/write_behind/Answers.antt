-- The goals of `write_behind` that are proved by hand.
use Rattle.block_device.specs.Moments.{leaves_weaker}
use Rattle.page_file.specs.Opening.{IsRefused}
use Rattle.page_file.specs.Gated.{fails, still_open}
use Rattle.page_file.proofs.creation.write_behind.Goals as goal

pub returns-clause-open : goal.returns-clause-open
returns-clause-open g c = λ h all e left. let from = c.write_block.ensures.now h e left in
    still_open c.args.n from.0 e c.requires.behind (all from.0 from.1) from.2

pub returns-clause-stops : goal.returns-clause-stops
returns-clause-stops g c =
    λ h all. leaves_weaker g.D.BlockDevice.moment g.D.BlockDevice.left_since g.D.BlockDevice.recovery
    c.args.device.now c.write_block.new.device _ IsRefused
    (λ e from. fails e (still_open c.args.n from.0 e c.requires.behind (all from.0 from.1) from.2))
    (c.write_block.ensures.stops h)
