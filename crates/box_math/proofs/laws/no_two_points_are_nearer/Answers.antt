-- The goals of `no_two_points_are_nearer` that are proved by hand.
use Rattle.box_math.proofs.Distances.{box_dist2_of-least}
use Rattle.box_math.proofs.laws.no_two_points_are_nearer.Goals as goal

pub returns : goal.returns
returns c = box_dist2_of-least
