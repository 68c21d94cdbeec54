-- What follows from the checks of opening up to a version.
use Rattle.live_layers.proofs.OneTable.{an_image_above_is_refused, an_image_within_is_not_refused}
use Rattle.live_layers.proofs.OneTable.{blocks_are_refused_in_one_way_up_to}
use Rattle.layer_store.proofs.laws.an_image_is_refused_where_its_version_is_above.Goals as goal

pub returns-clause-within : goal.returns-clause-within
returns-clause-within c = λ newest blocks t f h within refuses. an_image_within_is_not_refused newest blocks t f h within refuses

pub returns-clause-above : goal.returns-clause-above
returns-clause-above c = λ newest blocks t h above. an_image_above_is_refused newest blocks t h above

pub returns-clause-one_way : goal.returns-clause-one_way
returns-clause-one_way c = λ newest blocks f g a b. blocks_are_refused_in_one_way_up_to newest blocks f g a b
