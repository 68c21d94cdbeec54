-- The counts in both pages are those of the nodes.
use Rattle.id_tree.proofs.WorksLemmas.{finds_none}
use Rattle.std.proofs.Common.{◌∙◌, ◌<◌, arith, inl, inr}
use Rattle.page_cache.specs.Cache.{pages}
use Rattle.node_page.proofs.NodeLemmas.{at_error}
use Rattle.id_tree.proofs.AddLemmas.{fork_counted, leaf_counted}
use Rattle.id_tree.proofs.NodeLemmas.{node_there, there_bytes}
use Rattle.id_tree.proofs.SplitLemmas.{live_same}
use Rattle.node_page.proofs.DamageLemmas.{damaged_read}
use Rattle.id_tree.proofs.meeting.fit_together.Goals as goal

pub returns-in_err-one-clause-damage : goal.returns-in_err-one-clause-damage
returns-in_err-one-clause-damage g c = λ h.
    at_error c.from_residual.result c.in_err-one.field-0.0 _
    c.from_residual.ensures.1
    (λ n damaged. inl
    (damaged_read c.in_err-one.field-0.0 c.args.first n (c.in_err-one.ensures.damage h) damaged))

pub returns-in_err-two-clause-damage : goal.returns-in_err-two-clause-damage
returns-in_err-two-clause-damage g c = λ h.
    at_error c.from_residual-in_err-two.result c.in_err-two.field-0.0 _
    c.from_residual-in_err-two.ensures.1
    (λ n damaged. inr (damaged_read c.in_err-two.field-0.0 c.args.second n
    (c.in_err-two.ensures.damage (c.in_ok-one.ensures.asks.gate.honest.0 h)) damaged))

pub returns-in_err-one-clause-fits : goal.returns-in_err-one-clause-fits
returns-in_err-one-clause-fits g c = λ h one two node_one node_two.
    finds_none c.in_err-one.field-0.0 c.from_residual.ensures.1 (c.in_err-one.ensures.there h
    (node_there g.row.D (pages c.args.cache.now) c.args.first c.args.level one node_one))

pub returns-in_err-two-clause-fits : goal.returns-in_err-two-clause-fits
returns-in_err-two-clause-fits g c = λ h one two node_one node_two.
    let old = pages c.args.cache.now in
    let asks = c.in_ok-one.ensures.asks in
    finds_none c.in_err-two.field-0.0 c.from_residual-in_err-two.ensures.1
    (c.in_err-two.ensures.there (asks.gate.honest.0 h)
    (live_same old (pages c.count_in.new.cache) c.args.second (asks.map.pages_stay h)
    (node_there g.row.D old c.args.second c.args.level two node_two)))

pub returns-then-level-eq0-clause-fits : goal.returns-then-level-eq0-clause-fits
returns-then-level-eq0-clause-fits g c = λ h one two node_one node_two.
    let D = g.row.D in
    let old = pages c.args.cache.now in
    let first = c.args.first in
    let second = c.args.second in
    let level = c.args.level in
    let asks = c.in_ok-one.ensures.asks in
    let a = there_bytes D old first level one node_one in
    let b = there_bytes D old second level two node_two in
    let count_one = c.in_ok-one.ensures.count h a.0 a.1 in
    let count_two = c.in_ok-two.ensures.count (asks.gate.honest.0 h) b.0
    (asks.map.pages_stay h second ∙ b.1) in
    let low = c.if-level-eq0.true in
    let long_one = leaf_counted D old first level one a.0 node_one low a.1 in
    let long_two = leaf_counted D old second level two b.0 node_two low b.1 in
    let most = c.objects_that_fit.ensures in
    record {
      found = (
        λ yes. let f = c.fit_in.ensures.fit yes in record {
          leaf = λ is. omega (arith, f, count_one, count_two, long_one, long_two, most);
          fork = λ high. absurd (omega (arith, high, low));
        },
        λ none. let f = c.fit_in.ensures.many none in record {
          leaf = λ is. omega (arith, f, count_one, count_two, long_one, long_two, most);
          fork = λ high. absurd (omega (arith, high, low));
        },
      );
      faults = tt;
    }

pub returns-clause-fits : goal.returns-clause-fits
returns-clause-fits g c = λ h one two node_one node_two.
    let D = g.row.D in
    let old = pages c.args.cache.now in
    let first = c.args.first in
    let second = c.args.second in
    let level = c.args.level in
    let asks = c.in_ok-one.ensures.asks in
    let a = there_bytes D old first level one node_one in
    let b = there_bytes D old second level two node_two in
    let count_one = c.in_ok-one.ensures.count h a.0 a.1 in
    let count_two = c.in_ok-two.ensures.count (asks.gate.honest.0 h) b.0
    (asks.map.pages_stay h second ∙ b.1) in
    let up : 0 < level = omega (arith, c.if-level-eq0.false) in
    let long_one = fork_counted D old first level one a.0 node_one up a.1 in
    let long_two = fork_counted D old second level two b.0 node_two up b.1 in
    record {
      found = (
        λ yes. let f = c.fit_in-2.ensures.fit yes in record {
          leaf = λ is. absurd (omega (arith, is, up));
          fork = λ high. omega (arith, f, count_one, count_two, long_one, long_two);
        },
        λ none. let f = c.fit_in-2.ensures.many none in record {
          leaf = λ is. absurd (omega (arith, is, up));
          fork = λ high. omega (arith, f, count_one, count_two, long_one, long_two);
        },
      );
      faults = tt;
    }
