-- The rest of the log restores the same blocks.
use Rattle.std.proofs.Common.{◌≡◌, length, drop}
use Rattle.block_device.specs.Logged.{restored, writes_in}
use Rattle.block_device.proofs.log.restore.Given as goal

abbrev pub invariant-loop-k : goal.invariant-loop-k
invariant-loop-k g l = record {
  as_many : length l.blocks.items ≡ length l.fn.blocks.items;
  same : restored (drop l.k (writes_in l.numbers l.olds)) l.blocks.items ≡ restored
      (writes_in l.numbers l.olds) l.fn.blocks.items;
}
