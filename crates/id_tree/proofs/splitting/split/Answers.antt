-- A split that was looked out is made.
use Rattle.id_tree.proofs.WorksLemmas.{works_from, works_refused}
use Rattle.std.proofs.Common.{inl, inr}
use Rattle.page_cache.specs.Cache.{pages}
use Rattle.page_cache.specs.Calls.{asks_and_changes}
use Rattle.node_page.proofs.NodeLemmas.{at_error}
use Rattle.id_tree.proofs.ResultLemmas.{if_err}
use Rattle.id_tree.proofs.SplitLemmas.{halves_from, plans_same, split_again}
use Rattle.id_tree.proofs.DamageLemmas.{breaks_kept}
use Rattle.id_tree.proofs.splitting.split.Goals as goal

pub returns-clause-changes : goal.returns-clause-changes
returns-clause-changes g c = asks_and_changes c.args.cache.now c.plan_split.new.cache c.put_split.new.cache
    c.put_split.result c.in_ok-plan.ensures.asks c.put_split.ensures.changes

pub returns-in_err-plan-clause-damage : goal.returns-in_err-plan-clause-damage
returns-in_err-plan-clause-damage g c = λ h none.
    at_error c.from_residual.result c.in_err-plan.field-0.0 _
    c.from_residual.ensures.1 (λ n damaged. inl (c.in_err-plan.ensures.damage h n damaged))

pub returns-clause-damage : goal.returns-clause-damage
returns-clause-damage g c = λ h none.
    let asks = c.in_ok-plan.ensures.asks in
    if_err c.put_split.result _ _
    (λ e breaks n damaged. inr
    (breaks_kept c.args.cache.now c.plan_split.new.cache n asks.map h (breaks n damaged)))
    (c.put_split.ensures.damage (asks.gate.honest.0 h) none)

pub returns-clause-touched : goal.returns-clause-touched
returns-clause-touched g c = c.put_split.ensures.touched

pub returns-in_err-plan-clause-splits : goal.returns-in_err-plan-clause-splits
returns-in_err-plan-clause-splits g c = λ map edge row may.
    works_refused c.in_err-plan.field-0.0 c.from_residual.ensures.1 (c.in_err-plan.ensures.asks.map.sound.0 map)
    (inl (c.in_err-plan.ensures.plans map.honest edge row may).faults)

pub returns-clause-splits : goal.returns-clause-splits
returns-clause-splits g c = λ map edge row may.
    let D = g.row.D in
    let b = c.args.below.now in
    let page = c.args.page in
    let level = c.args.level in
    let id = c.args.id in
    let old = pages c.args.cache.now in
    let mid = pages c.plan_split.new.cache in
    let asks = c.in_ok-plan.ensures.asks in
    let same = asks.map.pages_stay map.honest in
    let plan = (c.in_ok-plan.ensures.plans map.honest edge row may).found in
    works_from (c.put_split.ensures.splits (asks.map.sound.0 map) level edge row
    (split_again D old mid page level edge row id b.child b.place b.last same may)
    (plans_same {new = mid} plan same)) same
    (λ r m. halves_from D old mid (pages c.put_split.new.cache) page level edge row id r.0 r.1 same m)
    (λ f why. why)
