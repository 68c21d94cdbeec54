-- The goals of `no_point_is_nearer` that are proved by hand.
use Rattle.box_math.proofs.Growth.{point_dist2_of-least}
use Rattle.box_math.proofs.laws.no_point_is_nearer.Goals as goal

pub returns : goal.returns
returns c = λ dims b p q box. point_dist2_of-least dims b p q
