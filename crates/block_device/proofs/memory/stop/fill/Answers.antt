-- One block more.
use Rattle.std.proofs.Common.{arith}
use Rattle.block_device.proofs.Filling.{filled_next, filled_not}
use Rattle.block_device.proofs.memory.stop.fill.Goals as goal
use Rattle.block_device.proofs.memory.stop.fill.Goals.{then-marks-i, else-marks-i}

pub loop-i-preserved : goal.loop-i-preserved
loop-i-preserved g c = elim c.if-marks-i.branch [
  | then-marks-i w ↦ rw w.blocks-is
      (filled_next c.args.bytes.now c.args.marks.now c.loop-i.i c.args.blocks.now.items c.loop-i.blocks.items
      c.loop-i.invariant (omega arith) w.if-marks-i.true)
  | else-marks-i w ↦ rw w.blocks-is
      (filled_not c.args.bytes.now c.args.marks.now c.loop-i.i c.args.blocks.now.items c.loop-i.blocks.items
      c.loop-i.invariant w.if-marks-i.false)
]
