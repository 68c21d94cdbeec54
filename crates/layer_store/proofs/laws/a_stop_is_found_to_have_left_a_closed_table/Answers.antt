-- A stop brings back a commit, which is of a table that was closed.
use Rattle.live_layers.proofs.RecoveryLemmas.{one_longer}
use Rattle.layer_store.proofs.StopLemmas.{found_of_store}
use Rattle.layer_store.proofs.laws.a_stop_is_found_to_have_left_a_closed_table.Goals as goal

pub returns-clause-now : goal.returns-clause-now
returns-clause-now g c =
    λ store s represents opens b one. one_longer s.stops.kept b
    (one.0, (found_of_store store s represents opens).now one.0 one.1, one.2)

pub returns-clause-so_far : goal.returns-clause-so_far
returns-clause-so_far g c =
    λ store s represents opens b found. (found_of_store store s represents opens).so_far b found
