-- The goals of `meet_is_a_box` that are proved by hand.
use Rattle.box_math.proofs.BoxLaws.{IsBox-meet_of}
use Rattle.box_math.proofs.laws.meet_is_a_box.Goals as goal

pub returns : goal.returns
returns c = IsBox-meet_of
