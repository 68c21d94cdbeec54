-- The goals of `overlap_with_an_enclosing_box` that are proved by hand.
use Rattle.box_math.proofs.Growth.{overlap_of-enclosed}
use Rattle.box_math.proofs.laws.overlap_with_an_enclosing_box.Goals as goal

pub returns : goal.returns
returns c = overlap_of-enclosed
