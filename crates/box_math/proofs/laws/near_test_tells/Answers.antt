-- The goals of `near_test_tells` that are proved by hand.
use Rattle.box_math.proofs.Distances.{near_test_true}
use Rattle.box_math.proofs.laws.near_test_tells.Goals as goal

pub returns : goal.returns
returns c = near_test_true
