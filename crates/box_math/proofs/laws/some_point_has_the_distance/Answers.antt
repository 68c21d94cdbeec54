-- The goals of `some_point_has_the_distance` that are proved by hand.
use Rattle.box_math.proofs.Growth.{point_dist2_of-reached}
use Rattle.box_math.proofs.laws.some_point_has_the_distance.Goals as goal

pub returns : goal.returns
returns c = point_dist2_of-reached
