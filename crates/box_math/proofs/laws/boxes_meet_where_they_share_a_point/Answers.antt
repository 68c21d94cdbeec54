-- The goals of `boxes_meet_where_they_share_a_point` that are proved by hand.
use Rattle.box_math.proofs.BoxLaws.{Meets-point}
use Rattle.box_math.proofs.laws.boxes_meet_where_they_share_a_point.Goals as goal

pub returns : goal.returns
returns c = Meets-point
