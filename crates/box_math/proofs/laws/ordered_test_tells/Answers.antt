-- The goals of `ordered_test_tells` that are proved by hand.
use Rattle.box_math.proofs.TestLaws.{ordered_test_true}
use Rattle.box_math.proofs.laws.ordered_test_tells.Goals as goal

pub returns : goal.returns
returns c = ordered_test_true
