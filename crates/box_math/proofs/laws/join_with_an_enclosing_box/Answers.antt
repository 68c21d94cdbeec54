-- The goals of `join_with_an_enclosing_box` that are proved by hand.
use Rattle.box_math.proofs.BoxLaws.{join_of-enclosing}
use Rattle.box_math.proofs.laws.join_with_an_enclosing_box.Goals as goal

pub returns : goal.returns
returns c = join_of-enclosing
