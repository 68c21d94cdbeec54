-- The goals of `box_is_within_where_its_points_are` that are proved by hand.
use Rattle.box_math.proofs.BoxLaws.{Within-points}
use Rattle.box_math.proofs.laws.box_is_within_where_its_points_are.Goals as goal

pub returns : goal.returns
returns c = Within-points
