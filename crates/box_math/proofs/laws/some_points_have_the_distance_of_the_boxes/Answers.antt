-- The goals of `some_points_have_the_distance_of_the_boxes` that are proved by hand.
use Rattle.box_math.proofs.Distances.{box_dist2_of-reached}
use Rattle.box_math.proofs.laws.some_points_have_the_distance_of_the_boxes.Goals as goal

pub returns : goal.returns
returns c = box_dist2_of-reached
