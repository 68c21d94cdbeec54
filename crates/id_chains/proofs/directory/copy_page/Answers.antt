-- The goal of `copy_page` that is proved by hand: the page that is damaged is the one that was asked for.
use Rattle.page_cache.specs.Cache.{next_of}
use Rattle.node_page.proofs.NodeLemmas.{at_error, page_refused}
use Rattle.id_chains.proofs.directory.copy_page.Goals as goal

pub returns-in_err-page-clause-damage : goal.returns-in_err-page-clause-damage
returns-in_err-page-clause-damage g c = λ h.
    let n = c.args.number in
    at_error c.from_residual.result c.in_err-page.field-0.0 _
    c.from_residual.ensures.1
    (page_refused n (next_of c.args.cache.now) c.in_err-page.field-0.0 (c.in_err-page.ensures.faults h)
    (λ outside. let is = c.in_err-page.ensures.outside outside in cc))
