-- A page that a check names as damaged is the one that the fault names.
use Rattle.std.proofs.Common.{◌∙◌, sym}
use Rattle.live_layers.proofs.CheckLemmas.{damaged_fault}
use Rattle.live_layers.proofs.layers.Layers.check.Goals as goal

pub returns-in-Err-clause-damage : goal.returns-in-Err-clause-damage
returns-in-Err-clause-damage g c = λ honest n is.
    c.in-Err.ensures.damage honest n (damaged_fault c.in-Err.fault n (sym c.as_refusal.ensures ∙ is))
