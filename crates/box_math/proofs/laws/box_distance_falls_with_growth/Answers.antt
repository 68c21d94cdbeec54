-- The goals of `box_distance_falls_with_growth` that are proved by hand.
use Rattle.box_math.proofs.Distances.{box_dist2_of-falls}
use Rattle.box_math.proofs.laws.box_distance_falls_with_growth.Goals as goal

pub returns : goal.returns
returns c = box_dist2_of-falls
