-- Each coordinate lies within the block, and all of them are the corner.
use Rattle.std.proofs.Common.{arith}
use Rattle.box_bytes.specs.Laws.{corner_is}
use Rattle.box_bytes.proofs.corners.read_corner.Goals as goal

pub returns : goal.returns
returns g c =
    corner_is g.row.D c.args.block.now c.args.at c.args.stride c.loop-axis.corner c.loop-axis.invariant.0
    (λ k lt. c.loop-axis.invariant.1 k (omega arith))
