-- The blocks so far are filled where there is a mark.
use Rattle.block_device.proofs.Filling.{FilledBelow}
use Rattle.block_device.proofs.memory.stop.fill.Given as goal

abbrev pub invariant-loop-i : goal.invariant-loop-i
invariant-loop-i g l = FilledBelow l.bytes l.marks l.i l.fn.blocks.items l.blocks.items
