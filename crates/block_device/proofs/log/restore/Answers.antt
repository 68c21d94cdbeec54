-- One write back.
use Rattle.std.proofs.Common.{◌∙◌, ◌<◌, length, get_or, arith, length-set}
use Rattle.block_device.specs.Device.{block_at}
use Rattle.block_device.proofs.Logged.{restored_next, restored_all, there_at}
use Rattle.block_device.proofs.log.restore.Goals as goal

pub index_mut-requires : goal.index_mut-requires
index_mut-requires g c =
    let lt : get_or c.args.numbers.now c.loop-k.k 0 < length c.args.blocks.now.items =
    there_at (length c.args.blocks.now.items) c.loop-k.k c.args.numbers.now c.args.olds.now c.requires.there
    c.requires.paired c.loop-k-test.true in
    omega (arith, lt, c.loop-k.invariant.as_many, c.loop-k.blocks.ok.0)

pub loop-k-preserved : goal.loop-k-preserved
loop-k-preserved g c = record {
  as_many =
      length-set c.loop-k.blocks.items (get_or c.args.numbers.now c.loop-k.k 0)
      (block_at c.loop-k.k c.args.olds.now) ∙ c.loop-k.invariant.as_many;
  same = restored_next c.loop-k.k c.args.numbers.now c.args.olds.now c.args.blocks.now.items
      c.loop-k.blocks.items c.requires.paired c.loop-k-test.true c.loop-k.invariant.same;
}

pub returns : goal.returns
returns g c =
    restored_all c.loop-k.k c.args.numbers.now c.args.olds.now c.args.blocks.now.items c.loop-k.blocks.items
    c.loop-k-test.false c.loop-k.invariant.same
