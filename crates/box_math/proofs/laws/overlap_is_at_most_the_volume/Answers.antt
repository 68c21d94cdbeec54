-- The goals of `overlap_is_at_most_the_volume` that are proved by hand.
use Rattle.box_math.proofs.Growth.{overlap_of-volume}
use Rattle.box_math.proofs.laws.overlap_is_at_most_the_volume.Goals as goal

pub returns : goal.returns
returns c = overlap_of-volume
