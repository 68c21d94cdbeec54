-- The goals of `near_boxes_meet_where_one_is_widened` that are proved by hand.
use Rattle.box_math.proofs.Distances.{near-widened}
use Rattle.box_math.proofs.laws.near_boxes_meet_where_one_is_widened.Goals as goal

pub returns : goal.returns
returns c = near-widened
