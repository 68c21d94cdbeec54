-- Both pages have their shares, and the fork the key between them.
use Rattle.id_tree.proofs.WorksLemmas.{works_done, works_handed, works_refused}
use Rattle.std.proofs.Common.{arith, inl}
use Rattle.id_tree.proofs.JoinLemmas.{second_in, shares_from, shares_left, shares_right, join_apart}
use Rattle.id_tree.proofs.JoinLemmas.{join_neighbours, join_same}
use Rattle.id_tree.proofs.TidyLemmas.{both_tidy_on, tidy_same}
use Rattle.page_cache.specs.Cache.{pages}
use Rattle.node_page.proofs.NodeLemmas.{at_error}
use Rattle.node_page.proofs.DamageLemmas.{damaged_read}
use Rattle.id_tree.proofs.joining.share.Goals as goal

pub returns-in_err-cut-clause-damage : goal.returns-in_err-cut-clause-damage
returns-in_err-cut-clause-damage g c = λ h none.
    at_error c.from_residual.result c.in_err-cut.field-0.0 _
    c.from_residual.ensures.1 (c.in_err-cut.ensures.damage h)

pub returns-in_err-put_shares-clause-damage : goal.returns-in_err-put_shares-clause-damage
returns-in_err-put_shares-clause-damage g c = λ h none.
    let honest = c.in_ok-cut.ensures.asks.gate.honest.0 h in
    at_error c.from_residual-in_err-put_shares.result c.in_err-put_shares.field-0.0 _
    c.from_residual-in_err-put_shares.ensures.1
    (λ n damaged. inl (damaged_read c.in_err-put_shares.field-0.0 c.args.pair.now.first n
    (c.in_err-put_shares.ensures.damage honest none) damaged))

pub returns-then-id-cut-clause-touched : goal.returns-then-id-cut-clause-touched
returns-then-id-cut-clause-touched g c = c.in_ok-put_shares.ensures.touched

pub returns-clause-touched : goal.returns-clause-touched
returns-clause-touched g c = c.in_ok-put_shares.ensures.touched

pub returns-in_err-cut-clause-shares : goal.returns-in_err-cut-clause-shares
returns-in_err-cut-clause-shares g c = λ map edge row may many.
    works_refused c.in_err-cut.field-0.0 c.from_residual.ensures.1 (c.in_err-cut.ensures.asks.map.sound.0 map)
    (c.in_err-cut.ensures.shares map.honest c.args.pair.now.last may.pair.at.one may.pair.at.two
    (join_neighbours may) many).faults

pub returns-in_err-put_shares-clause-shares : goal.returns-in_err-put_shares-clause-shares
returns-in_err-put_shares-clause-shares g c = λ map edge row may many.
    let D = g.row.D in
    let old = pages c.args.cache.now in
    let mid = pages c.shared.new.cache in
    let asks = c.in_ok-cut.ensures.asks in
    let same = asks.map.pages_stay map.honest in
    let joins = join_same {new = mid} may same in
    let cut = c.in_ok-cut.cut in
    let cuts = (c.in_ok-cut.ensures.shares map.honest c.args.pair.now.last may.pair.at.one may.pair.at.two
    (join_neighbours may) many).found in
    let two = both_tidy_on D old mid cut.first cut.second same cuts.tidy in
    works_handed (c.in_err-put_shares.ensures.puts (asks.map.sound.0 map) (join_apart joins) _
    may.pair.fork_is (second_in may) joins.tidy two) c.from_residual-in_err-put_shares.ensures.1
    (λ why. why)

pub returns-then-id-cut-clause-shares : goal.returns-then-id-cut-clause-shares
returns-then-id-cut-clause-shares g c = λ map edge row may many.
    let D = g.row.D in
    let old = pages c.args.cache.now in
    let mid = pages c.shared.new.cache in
    let asks = c.in_ok-cut.ensures.asks in
    let same = asks.map.pages_stay map.honest in
    let joins = join_same {new = mid} may same in
    let cut = c.in_ok-cut.cut in
    let cuts = (c.in_ok-cut.ensures.shares map.honest c.args.pair.now.last may.pair.at.one may.pair.at.two
    (join_neighbours may) many).found in
    let two = both_tidy_on D old mid cut.first cut.second same cuts.tidy in
    let puts = c.in_ok-put_shares.ensures.puts (asks.map.sound.0 map) (join_apart joins) _ may.pair.fork_is
    (second_in may) joins.tidy two in
    works_done puts (tidy_same D old mid same) (shares_from (shares_left joins (pages c.put_shares.new.cache)
    cut.key cut.first cut.second cuts.cuts cuts.balanced puts.made _
    (λ room. (cuts.roomy room, room.low)) c.if-id-cut.true) same)

pub returns-clause-shares : goal.returns-clause-shares
returns-clause-shares g c = λ map edge row may many.
    let D = g.row.D in
    let old = pages c.args.cache.now in
    let mid = pages c.shared.new.cache in
    let asks = c.in_ok-cut.ensures.asks in
    let same = asks.map.pages_stay map.honest in
    let joins = join_same {new = mid} may same in
    let cut = c.in_ok-cut.cut in
    let cuts = (c.in_ok-cut.ensures.shares map.honest c.args.pair.now.last may.pair.at.one may.pair.at.two
    (join_neighbours may) many).found in
    let two = both_tidy_on D old mid cut.first cut.second same cuts.tidy in
    let puts = c.in_ok-put_shares.ensures.puts (asks.map.sound.0 map) (join_apart joins) _ may.pair.fork_is
    (second_in may) joins.tidy two in
    works_done puts (tidy_same D old mid same) (shares_from (shares_right joins (pages c.put_shares.new.cache)
    cut.key cut.first cut.second cuts.cuts cuts.balanced puts.made _
    (λ room. (cuts.roomy room, room.low)) (omega (arith, c.if-id-cut.false))) same)
