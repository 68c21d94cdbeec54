-- The law is the lemma of what is kept.
use Rattle.live_layers.proofs.StopLemmas.{leaves_kept}
use Rattle.live_layers.proofs.laws.stops_leave_the_same_after_a_question.Goals as goal

pub returns : goal.returns
returns g c = leaves_kept
