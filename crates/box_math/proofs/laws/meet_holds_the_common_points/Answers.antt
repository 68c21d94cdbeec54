-- The goals of `meet_holds_the_common_points` that are proved by hand.
use Rattle.box_math.proofs.BoxLaws.{meet_of-points}
use Rattle.box_math.proofs.laws.meet_holds_the_common_points.Goals as goal

pub returns : goal.returns
returns c = meet_of-points
