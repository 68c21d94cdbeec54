-- The goals of `box_distance_is_symmetric` that are proved by hand.
use Rattle.box_math.proofs.Distances.{box_dist2_of-commutes}
use Rattle.box_math.proofs.laws.box_distance_is_symmetric.Goals as goal

pub returns : goal.returns
returns c = box_dist2_of-commutes
