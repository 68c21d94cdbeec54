-- The goals of `meets_test_tells` that are proved by hand.
use Rattle.box_math.proofs.TestLaws.{meets_test_true}
use Rattle.box_math.proofs.laws.meets_test_tells.Goals as goal

pub returns : goal.returns
returns c = meets_test_true
