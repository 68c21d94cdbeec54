-- The mask of eight lanes.
use Rattle.std.proofs.Common.{◌+◌, ◌*◌, ℕ}
use Rattle.block_bytes.specs.Numbers.{signed_at}
use Rattle.box_math.proofs.Lanes.{block}
use Rattle.node_bytes.proofs.masks.axis_mask.Goals as goal

pub returns : goal.returns
returns c =
    block (λ (k : ℕ). signed_at (c.args.first + 4 * k) c.args.page.now)
    (λ (k : ℕ). signed_at (c.args.first + 400 + 4 * k) c.args.page.now) c.args.at c.args.low c.args.high
    c.ranges.low c.ranges.high
    c.lanes.ensures.fits c.lanes-2.ensures.fits c.lanes.result c.lanes-2.result c.lanes.ensures.read
    c.lanes-2.ensures.read
