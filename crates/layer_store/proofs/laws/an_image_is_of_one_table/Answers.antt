-- The goal of `an_image_is_of_one_table` that is proved by hand.
use Rattle.live_layers.proofs.OneTable as one
use Rattle.layer_store.proofs.laws.an_image_is_of_one_table.Goals as goal

pub returns : goal.returns
returns c = λ blocks t u h k. one.an_image_is_of_one_table blocks t u h k
