use Rattle.std.proofs.Common.{arith}
use Rattle.c_rows.proofs.Arrays.{list_then_zeros}
use Rattle.c_rows.proofs.layers.name_of.Goals as goal

pub returns : goal.returns
returns c =
    list_then_zeros c.args.name.now.items c.loop-k.bytes 32 c.loop-k.k
    (omega (arith, c.loop-k-test.false, c.loop-k.auto.k-end, c.len-k-end.ensures.value))
    c.loop-k.invariant.done c.loop-k.invariant.left
