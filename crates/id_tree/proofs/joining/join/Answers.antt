-- The pair that was looked out is joined.
use Rattle.id_tree.proofs.WorksLemmas.{works_from, works_refused}
use Rattle.page_cache.specs.Cache.{pages, given}
use Rattle.node_page.proofs.NodeLemmas.{at_error}
use Rattle.id_tree.proofs.JoinLemmas.{pair_may_join, spare_from}
use Rattle.id_tree.proofs.PairLemmas.{beside_left}
use Rattle.id_tree.proofs.ResultLemmas.{if_err}
use Rattle.id_tree.proofs.NodeLemmas.{node_there}
use Rattle.std.proofs.Common.{refl}
use Rattle.id_tree.specs.Checked.{ComesInTree}
use Rattle.id_tree.proofs.DamageLemmas.{comes_at, comes_down, comes_to_one}
use Rattle.id_tree.proofs.GivenLemmas.{comes_here}
use Rattle.id_tree.proofs.joining.join.Goals as goal

pub returns-in_err-pair-clause-damage : goal.returns-in_err-pair-clause-damage
returns-in_err-pair-clause-damage g c = λ h none content there.
    at_error c.from_residual.result c.in_err-pair.field-0.0 _
    c.from_residual.ensures.1 (λ n damaged.
    comes_at g.row.D (given c.args.cache.now) c.args.page n c.in_err-pair.field-0.0
    (c.in_err-pair.ensures.damage h) damaged)

pub returns-clause-damage : goal.returns-clause-damage
returns-clause-damage g c = λ h none content there.
    let D = g.row.D in
    let m = given c.args.cache.now in
    let page = c.args.page in
    let p = c.in_ok-pair.pair in
    let names = c.in_ok-pair.ensures.names h content there in
    let first : ComesInTree D m page p.first = comes_down D m page p.first p.first (content, there, names.0)
    (comes_here D m p.first p.first refl) in
    let second : ComesInTree D m page p.second = comes_down D m page p.second p.second
    (content, there, names.1) (comes_here D m p.second p.second refl) in
    if_err c.join_pair.result _ _
    (λ f either n damaged. comes_to_one D m page p.first p.second n first second (either n damaged))
    (c.join_pair.ensures.damage (c.in_ok-pair.ensures.asks.gate.honest.0 h) none)

pub returns-clause-touched : goal.returns-clause-touched
returns-clause-touched g c = c.join_pair.ensures.touched

pub returns-in_err-pair-clause-joins : goal.returns-in_err-pair-clause-joins
returns-in_err-pair-clause-joins g c = λ map child row may.
    works_refused c.in_err-pair.field-0.0 c.from_residual.ensures.1 (c.in_err-pair.ensures.asks.map.sound.0 map)
    (c.in_err-pair.ensures.there map.honest c.args.level c.args.id child c.args.place row may
    (beside_left may c.left_of.ensures.first c.left_of.ensures.later))

pub returns-clause-joins : goal.returns-clause-joins
returns-clause-joins g c = λ map child row may.
    let asks = c.in_ok-pair.ensures.asks in
    let same = asks.map.pages_stay map.honest in
    let pair = c.in_ok-pair.ensures.pair map.honest c.args.level c.args.id child c.args.place row may
    (beside_left may c.left_of.ensures.first c.left_of.ensures.later) in
    let there = c.in_ok-pair.ensures.bytes map.honest
    (node_there g.row.D (pages c.args.cache.now) c.args.page c.args.level row may.stands.node) in
    works_from (c.join_pair.ensures.joins (asks.map.sound.0 map) c.args.edge row
    (pair_may_join may pair there same)) same (λ r made. spare_from made same) (λ f why. why)
