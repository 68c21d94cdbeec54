-- The goals of `a_session_state_begins_at_each_call` that are proved by hand.
use Rattle.layer_store.specs.Representation.{device_in}
use Rattle.layer_store.proofs.StopLemmas.{represents_from_now}
use Rattle.layer_store.proofs.laws.a_session_state_begins_at_each_call.Goals as goal

pub returns : goal.returns
returns g c =
    λ store s represents. represents_from_now store s
    (λ honest b left. g.met.D.BlockDevice.only_now (device_in store) b honest left)
    (λ honest b found. g.met.D.BlockDevice.brought_now (device_in store) b honest found) represents
