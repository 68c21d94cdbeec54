-- The goals of `overlap_is_symmetric` that are proved by hand.
use Rattle.box_math.proofs.Growth.{overlap_of-commutes}
use Rattle.box_math.proofs.laws.overlap_is_symmetric.Goals as goal

pub returns : goal.returns
returns c = overlap_of-commutes
