-- The goals of `add` that are proved by hand: a run of one object.
use Rattle.page_cache.specs.Cache.{pages}
use Rattle.node_page.specs.Faults.{IsNoDamage}
use Rattle.node_page.proofs.NodeLemmas.{at_error}
use Rattle.id_chains.proofs.FillLemmas.{one_set}
use Rattle.id_chains.proofs.adding.add.Goals as goal

pub returns-clause-added : goal.returns-clause-added
returns-clause-added g c = λ map t at stands new.
    one_set g.row.D (pages c.args.cache.now) (pages c.add_run.new.cache) t c.args.id
    (c.args.bounds.now, c.args.tag) c.in_ok-add_run.field-0 c.in_ok-add_run.ensures.count.0
    (c.in_ok-add_run.ensures.added map t at stands (new, tt))

pub returns-in_err-add_run-clause-faults : goal.returns-in_err-add_run-clause-faults
returns-in_err-add_run-clause-faults g c = λ map t at stands.
    at_error c.from_residual.result c.in_err-add_run.field-0.0 (IsNoDamage c.add_run.new.cache)
    c.from_residual.ensures.1 (c.in_err-add_run.ensures.faults map t at stands)

pub returns-in_err-add_run-clause-damage : goal.returns-in_err-add_run-clause-damage
returns-in_err-add_run-clause-damage g c = λ h.
    let old = c.args.cache.now in
    at_error c.from_residual.result c.in_err-add_run.field-0.0 _
    c.from_residual.ensures.1 (c.in_err-add_run.ensures.damage h)
