-- The goals of `a_session_state_is_of_its_store` that are proved by hand.
use Rattle.layer_store.proofs.StopLemmas.{session_state_is}
use Rattle.layer_store.proofs.laws.a_session_state_is_of_its_store.Goals as goal

pub returns : goal.returns
returns g c = λ store s represents. session_state_is store s represents
