-- The goal of `put_alone` that is proved by hand: the page that is damaged.
use Rattle.node_page.proofs.NodeLemmas.{at_error}
use Rattle.id_chains.proofs.adding.put_alone.Goals as goal

pub returns-in_err-put_before-clause-damage : goal.returns-in_err-put_before-clause-damage
returns-in_err-put_before-clause-damage g c = λ h.
    at_error c.from_residual.result c.in_err-put_before.field-0.0 _
    c.from_residual.ensures.1 (c.in_err-put_before.ensures.damage h)
