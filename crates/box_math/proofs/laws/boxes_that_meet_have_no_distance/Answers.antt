-- The goals of `boxes_that_meet_have_no_distance` that are proved by hand.
use Rattle.box_math.proofs.Distances.{box_dist2_of-zero}
use Rattle.box_math.proofs.laws.boxes_that_meet_have_no_distance.Goals as goal

pub returns : goal.returns
returns c = box_dist2_of-zero
