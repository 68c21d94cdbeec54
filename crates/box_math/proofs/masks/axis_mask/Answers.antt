-- The mask of eight lanes.
use Rattle.box_math.specs.Bounds.{on_axis}
use Rattle.box_math.proofs.Lanes.{block}
use Rattle.box_math.proofs.masks.axis_mask.Goals as goal

pub returns : goal.returns
returns c =
    block (on_axis c.args.lows.now) (on_axis c.args.highs.now) c.args.at c.args.first c.args.last
    c.ranges.first c.ranges.last
    c.lanes.ensures.fits c.lanes-2.ensures.fits c.lanes.result c.lanes-2.result c.lanes.ensures.read
    c.lanes-2.ensures.read
