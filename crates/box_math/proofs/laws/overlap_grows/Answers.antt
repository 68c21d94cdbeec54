-- The goals of `overlap_grows` that are proved by hand.
use Rattle.box_math.proofs.Growth.{overlap_of-grows}
use Rattle.box_math.proofs.laws.overlap_grows.Goals as goal

pub returns : goal.returns
returns c = overlap_of-grows
