-- The goals of `holds_test_tells` that are proved by hand.
use Rattle.box_math.proofs.TestLaws.{holds_test_true}
use Rattle.box_math.proofs.laws.holds_test_tells.Goals as goal

pub returns : goal.returns
returns c = holds_test_true
