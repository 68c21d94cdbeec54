-- The goals of `calls_in_turn_are_a_session` that are proved by hand.
use Rattle.layer_store.specs.Representation.{device_in}
use Rattle.layer_store.proofs.CallLemmas.{calls_are_a_session, calls_once_checked, calls_stay_honest}
use Rattle.layer_store.proofs.laws.calls_in_turn_are_a_session.Goals as goal

pub returns-clause-session : goal.returns-clause-session
returns-clause-session g c =
    λ old new rs xs calls. calls_are_a_session
    (λ store honest b left. g.met.D.BlockDevice.only_now (device_in store) b honest left) old new rs xs calls

pub returns-clause-checked : goal.returns-clause-checked
returns-clause-checked g c = λ old new rs xs calls honest. calls_once_checked old new rs xs honest calls

pub returns-clause-honest : goal.returns-clause-honest
returns-clause-honest g c = λ old new rs xs calls honest. calls_stay_honest old new rs xs calls honest
