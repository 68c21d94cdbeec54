use Rattle.std.proofs.Common.{◌<◌}
use Rattle.live_layers.proofs.RepeatLemmas.{Rise}
use Rattle.live_layers.proofs.repeats.first_twice.Given as goal

abbrev pub invariant-loop-place : goal.invariant-loop-place
invariant-loop-place l = (0 < l.place) × Rise l.ids l.place
