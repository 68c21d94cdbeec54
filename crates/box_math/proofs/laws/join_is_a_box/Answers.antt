-- The goals of `join_is_a_box` that are proved by hand.
use Rattle.box_math.proofs.BoxLaws.{IsBox-join_of}
use Rattle.box_math.proofs.laws.join_is_a_box.Goals as goal

pub returns : goal.returns
returns c = IsBox-join_of
