-- The goals of `join_encloses_both` that are proved by hand.
use Rattle.box_math.proofs.BoxLaws.{join_of-encloses}
use Rattle.box_math.proofs.laws.join_encloses_both.Goals as goal

pub returns : goal.returns
returns c = join_of-encloses
