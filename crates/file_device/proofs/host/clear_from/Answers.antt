-- Behind the end there is no byte.
use Rattle.std.proofs.Common.{◌<◌, ◌≤◌, arith, ⊎_elim}
use Rattle.std.proofs.lemmas.Bool.{cases_lt}
use Rattle.std.proofs.lemmas.List.{get_or_past}
use Rattle.file_device.proofs.host.clear_from.Goals as goal

pub returns-clause-after : goal.returns-clause-after
returns-clause-after c = λ k ge. ⊎_elim
    (λ (lt : k < 4096). c.loop-k.invariant.after k ge (omega arith))
    (λ (past : 4096 ≤ k). get_or_past c.loop-k.into k 0 (omega arith))
    (cases_lt k 4096)
