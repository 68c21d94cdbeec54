-- The goals of `distance_falls_with_growth` that are proved by hand.
use Rattle.box_math.proofs.Growth.{point_dist2_of-falls}
use Rattle.box_math.proofs.laws.distance_falls_with_growth.Goals as goal

pub returns : goal.returns
returns c = point_dist2_of-falls
