-- The goals of `joining_never_lessens_the_volume` that are proved by hand.
use Rattle.box_math.proofs.Growth.{volume_of-join}
use Rattle.box_math.proofs.laws.joining_never_lessens_the_volume.Goals as goal

pub returns : goal.returns
returns c = volume_of-join
