-- One page has all, and the fork names it alone.
use Rattle.id_tree.proofs.WorksLemmas.{works_done, works_handed, works_refused}
use Rattle.page_cache.specs.Cache.{pages}
use Rattle.node_page.proofs.NodeLemmas.{at_error}
use Rattle.id_tree.proofs.JoinLemmas.{join_apart, join_same, joined_spare, one_node, spare_from, two_node}
use Rattle.id_tree.proofs.TidyLemmas.{as_tidy_on, tidy_same}
use Rattle.std.proofs.Common.{inl}
use Rattle.node_page.proofs.DamageLemmas.{damaged_read}
use Rattle.id_tree.proofs.joining.make_one.Goals as goal

pub returns-in_err-all-clause-damage : goal.returns-in_err-all-clause-damage
returns-in_err-all-clause-damage g c = λ h none.
    at_error c.from_residual.result c.in_err-all.field-0.0 _
    c.from_residual.ensures.1 (c.in_err-all.ensures.damage h)

pub returns-in_err-put_joined-clause-damage : goal.returns-in_err-put_joined-clause-damage
returns-in_err-put_joined-clause-damage g c = λ h none.
    let honest = c.in_ok-all.ensures.asks.gate.honest.0 h in
    at_error c.from_residual-in_err-put_joined.result c.in_err-put_joined.field-0.0 _
    c.from_residual-in_err-put_joined.ensures.1
    (λ n damaged. inl (damaged_read c.in_err-put_joined.field-0.0 c.args.pair.now.first n
    (c.in_err-put_joined.ensures.damage honest none) damaged))

pub returns-clause-touched : goal.returns-clause-touched
returns-clause-touched g c = c.in_ok-put_joined.ensures.touched

pub returns-in_err-all-clause-joins : goal.returns-in_err-all-clause-joins
returns-in_err-all-clause-joins g c = λ map id edge row may fit.
    works_refused c.in_err-all.field-0.0 c.from_residual.ensures.1 (c.in_err-all.ensures.asks.map.sound.0 map)
    (c.in_err-all.ensures.joins map.honest may.pair.at.one may.pair.at.two (one_node may) (two_node may)
    fit).faults

pub returns-in_err-put_joined-clause-joins : goal.returns-in_err-put_joined-clause-joins
returns-in_err-put_joined-clause-joins g c = λ map id edge row may fit.
    let D = g.row.D in
    let old = pages c.args.cache.now in
    let mid = pages c.joined.new.cache in
    let asks = c.in_ok-all.ensures.asks in
    let same = asks.map.pages_stay map.honest in
    let joins = join_same {new = mid} may same in
    let all = (c.in_ok-all.ensures.joins map.honest may.pair.at.one may.pair.at.two (one_node may)
    (two_node may) fit).found in
    works_handed (c.in_err-put_joined.ensures.puts (asks.map.sound.0 map) (join_apart joins) _
    may.pair.fork_is joins.tidy (as_tidy_on D old mid c.in_ok-all.all same all.1))
    c.from_residual-in_err-put_joined.ensures.1 (λ why. why)

pub returns-clause-joins : goal.returns-clause-joins
returns-clause-joins g c = λ map id edge row may fit.
    let D = g.row.D in
    let old = pages c.args.cache.now in
    let mid = pages c.joined.new.cache in
    let asks = c.in_ok-all.ensures.asks in
    let same = asks.map.pages_stay map.honest in
    let joins = join_same {new = mid} may same in
    let all = (c.in_ok-all.ensures.joins map.honest may.pair.at.one may.pair.at.two (one_node may)
    (two_node may) fit).found in
    let puts = c.in_ok-put_joined.ensures.puts (asks.map.sound.0 map) (join_apart joins) _ may.pair.fork_is
    joins.tidy (as_tidy_on D old mid c.in_ok-all.all same all.1) in
    works_done puts (tidy_same D old mid same)
    (spare_from (joined_spare joins (pages c.put_joined.new.cache) c.in_ok-all.all all.0 puts.made) same)
