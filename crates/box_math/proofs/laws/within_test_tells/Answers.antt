-- The goals of `within_test_tells` that are proved by hand.
use Rattle.box_math.proofs.TestLaws.{within_test_true}
use Rattle.box_math.proofs.laws.within_test_tells.Goals as goal

pub returns : goal.returns
returns c = within_test_true
