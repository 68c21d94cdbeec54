-- The goals of `within_is_antisymmetric` that are proved by hand.
use Rattle.box_math.proofs.BoxLaws.{Within-antisym}
use Rattle.box_math.proofs.laws.within_is_antisymmetric.Goals as goal

pub returns : goal.returns
returns c = Within-antisym
