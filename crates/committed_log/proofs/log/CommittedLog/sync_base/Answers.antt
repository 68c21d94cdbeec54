-- The base as it is read is read through the regions that a stop leaves.
use Rattle.std.proofs.Common.{◌≡◌, arith}
use Rattle.block_device.specs.Device.{Blocks}
use Rattle.committed_log.proofs.Stood.{base_durable, on_ok}
use Rattle.committed_log.proofs.log.CommittedLog.sync_base.Goals as goal

pub returns-clause-durable : goal.returns-clause-durable
returns-clause-durable g c = λ h.
    let d = c.args.self.now in let p = g.P.DevicePair in let e = c.sync_base.new.self in
    on_ok c.sync_base.result _ _
    (λ (is : (a b : Blocks) → p.may_leave e a b → a ≡ p.base d.pair).
    base_durable d.clearing d.slots.homes.items (p.base d.pair) (p.journal d.pair) (p.may_leave d.pair)
    (p.may_leave e) (omega (arith, (g.met.P.DevicePair.few_blocks d.pair).0)) is
    (c.sync_base.ensures.stops h) (d.standing h)) (c.sync_base.ensures.durable h)
