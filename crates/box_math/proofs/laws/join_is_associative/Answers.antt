-- The goals of `join_is_associative` that are proved by hand.
use Rattle.box_math.proofs.BoxLaws.{join_of-associates}
use Rattle.box_math.proofs.laws.join_is_associative.Goals as goal

pub returns : goal.returns
returns c = join_of-associates
