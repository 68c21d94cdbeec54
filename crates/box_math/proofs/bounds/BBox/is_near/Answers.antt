-- The goal of `BBox::is_near` that is proved by hand.
use Rattle.box_math.specs.Measures.{near_test}
use Rattle.box_math.proofs.bounds.BBox.is_near.Goals as goal

pub returns : goal.returns
unfolding near_test
returns g c = cc
