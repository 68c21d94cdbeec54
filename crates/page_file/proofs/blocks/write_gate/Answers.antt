-- The goals of `write_gate` that are proved by hand.
use Rattle.std.proofs.Common.{ap, ◌∙◌, arith, length}
use Rattle.block_device.specs.Device.{block_at}
use Rattle.block_device.specs.Written.{block_at-written, length-written_within}
use Rattle.page_file.proofs.Moments.{gate_aside_leaves}
use Rattle.page_file.specs.Written.{torn_size}
use Rattle.page_file.proofs.blocks.write_gate.Goals as goal

pub returns-in_err-write-clause-size : goal.returns-in_err-write-clause-size
returns-in_err-write-clause-size g c = λ h some. torn_size 0 _ _ (c.in_err-write.ensures.torn h) some

pub returns-in_err-sync-clause-size : goal.returns-in_err-sync-clause-size
returns-in_err-sync-clause-size g c = λ h some. ap length (c.sync.ensures.shown (c.write.ensures.honest.0 h))
    ∙ ap length (c.in_ok-write.ensures.written h) ∙ length-written_within 0 _ _ some

pub returns-in_err-sync-clause-stops : goal.returns-in_err-sync-clause-stops
returns-in_err-sync-clause-stops g c = λ h.
    let d = g.D.BlockDevice in let h2 = c.write.ensures.honest.0 h in
    gate_aside_leaves d.moment d.left_since d.recovery d.may_leave c.args.device.now c.write.new.self
    c.sync.new.self (λ e left. g.met.D.BlockDevice.only_now c.args.device.now e h left)
    (c.write.ensures.stops h) (c.write.ensures.time h) (c.write.ensures.brings h) (c.sync.ensures.stops h2)
    (c.sync.ensures.time h2) (c.sync.ensures.brings h2)

pub returns-clause-size : goal.returns-clause-size
returns-clause-size g c = λ h some. ap length (c.sync.ensures.shown (c.write.ensures.honest.0 h))
    ∙ ap length (c.in_ok-write.ensures.written h) ∙ length-written_within 0 _ _ some

pub returns-clause-gate : goal.returns-clause-gate
returns-clause-gate g c = λ h. ap (block_at 0) (c.sync.ensures.shown (c.write.ensures.honest.0 h))
    ∙ ap (block_at 0) (c.in_ok-write.ensures.written h) ∙ block_at-written 0 _ _ (omega arith)
    ∙ c.gate_page-page.ensures

pub returns-clause-stops : goal.returns-clause-stops
returns-clause-stops g c = λ h.
    let d = g.D.BlockDevice in let h2 = c.write.ensures.honest.0 h in
    gate_aside_leaves d.moment d.left_since d.recovery d.may_leave c.args.device.now c.write.new.self
    c.sync.new.self (λ e left. g.met.D.BlockDevice.only_now c.args.device.now e h left)
    (c.write.ensures.stops h) (c.write.ensures.time h) (c.write.ensures.brings h) (c.sync.ensures.stops h2)
    (c.sync.ensures.time h2) (c.sync.ensures.brings h2)
