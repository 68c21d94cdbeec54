-- The goals of `a_store_is_in_one_state` that are proved by hand.
use Rattle.layer_store.proofs.StoreLemmas.{in_one_state}
use Rattle.layer_store.proofs.laws.a_store_is_in_one_state.Goals as goal

pub returns : goal.returns
returns g c = λ store s t h k. in_one_state store s t h k
