-- The goal of `a_closing_adds_its_table` that is proved by hand.
use Rattle.layer_store.proofs.StopLemmas.{left_by_closing}
use Rattle.layer_store.proofs.laws.a_closing_adds_its_table.Goals as goal

pub returns : goal.returns
returns g c =
    λ store s t device represents only b left. left_by_closing store s t device represents only b left
