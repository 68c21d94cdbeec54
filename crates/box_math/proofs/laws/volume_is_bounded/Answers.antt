-- The goals of `volume_is_bounded` that are proved by hand.
use Rattle.box_math.proofs.Growth.{volume_of-bound}
use Rattle.box_math.proofs.laws.volume_is_bounded.Goals as goal

pub returns : goal.returns
returns c = volume_of-bound
