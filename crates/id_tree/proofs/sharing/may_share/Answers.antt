-- The counts in both pages are those of the leaves.
use Rattle.std.proofs.Common.{◌∙◌, inl, inr, arith}
use Rattle.page_file.specs.Fault.{IsOfDevice}
use Rattle.page_cache.specs.Cache.{pages}
use Rattle.id_page.proofs.ObjectPlaces.{few_objects}
use Rattle.node_page.proofs.NodeLemmas.{at_error}
use Rattle.node_page.proofs.DamageLemmas.{damaged_read}
use Rattle.id_tree.proofs.AddLemmas.{leaf_counted}
use Rattle.id_tree.proofs.CutLemmas.{least_some, node_fits, sizes_there}
use Rattle.id_tree.proofs.NodeLemmas.{there_bytes}
use Rattle.id_tree.proofs.SplitLemmas.{live_same}
use Rattle.id_tree.proofs.sharing.may_share.Goals as goal

pub returns-in_err-one-clause-there : goal.returns-in_err-one-clause-there
returns-in_err-one-clause-there g c = λ h one two.
    at_error c.from_residual.result c.in_err-one.field-0.0 IsOfDevice c.from_residual.ensures.1
    (c.in_err-one.ensures.there h one)

pub returns-in_err-two-clause-there : goal.returns-in_err-two-clause-there
returns-in_err-two-clause-there g c = λ h one two.
    let asks = c.in_ok-one.ensures.asks in
    at_error c.from_residual-in_err-two.result c.in_err-two.field-0.0 IsOfDevice
    c.from_residual-in_err-two.ensures.1
    (c.in_err-two.ensures.there (asks.gate.honest.0 h)
    (live_same (pages c.args.cache.now) (pages c.count_in.new.cache) c.args.second (asks.map.pages_stay h)
    two))

pub are_few-requires : goal.are_few-requires
are_few-requires g c = record { few = omega (arith, c.objects_that_fit.ensures, few_objects g.row.D) }

pub returns-clause-many : goal.returns-clause-many
returns-clause-many g c = λ h level one two low node_one node_two yes.
    let D = g.row.D in
    let old = pages c.args.cache.now in
    let first = c.args.first in
    let second = c.args.second in
    let asks = c.in_ok-one.ensures.asks in
    let a = there_bytes D old first level one node_one in
    let b = there_bytes D old second level two node_two in
    let count_one = c.in_ok-one.ensures.count h a.0 a.1 in
    let count_two = c.in_ok-two.ensures.count (asks.gate.honest.0 h) b.0
    (asks.map.pages_stay h second ∙ b.1) in
    let long_one = leaf_counted D old first level one a.0 node_one low a.1 in
    let long_two = leaf_counted D old second level two b.0 node_two low b.1 in
    let many = c.are_few.ensures.many yes in
    record {
      leaf = λ is. omega (arith, many, count_one, count_two, long_one, long_two, c.objects_that_fit.ensures);
      fork = λ high. absurd (omega (arith, high, low));
    }

pub returns-clause-room : goal.returns-clause-room
returns-clause-room g c = λ h level one two low node_one node_two yes.
    let D = g.row.D in
    let old = pages c.args.cache.now in
    let first = c.args.first in
    let second = c.args.second in
    let asks = c.in_ok-one.ensures.asks in
    let a = there_bytes D old first level one node_one in
    let b = there_bytes D old second level two node_two in
    let count_one = c.in_ok-one.ensures.count h a.0 a.1 in
    let count_two = c.in_ok-two.ensures.count (asks.gate.honest.0 h) b.0
    (asks.map.pages_stay h second ∙ b.1) in
    let long_one = leaf_counted D old first level one a.0 node_one low a.1 in
    let long_two = leaf_counted D old second level two b.0 node_two low b.1 in
    let many = c.are_few.ensures.many yes in
    let few = c.are_few.ensures.few yes in
    let sizes = sizes_there D 1 (omega arith) (omega (arith, many, few, c.objects_that_fit.ensures)) in
    record {
      low = low;
      few = omega (
        arith,
        few,
        count_one,
        count_two,
        long_one,
        long_two,
        c.objects_that_fit.ensures,
        sizes.half,
        least_some D,
      );
    }

pub returns-clause-accepts : goal.returns-clause-accepts
returns-clause-accepts g c = λ h level one two low node_one node_two many few.
    let D = g.row.D in
    let old = pages c.args.cache.now in
    let first = c.args.first in
    let second = c.args.second in
    let asks = c.in_ok-one.ensures.asks in
    let a = there_bytes D old first level one node_one in
    let b = there_bytes D old second level two node_two in
    let count_one = c.in_ok-one.ensures.count h a.0 a.1 in
    let count_two = c.in_ok-two.ensures.count (asks.gate.honest.0 h) b.0
    (asks.map.pages_stay h second ∙ b.1) in
    let long_one = leaf_counted D old first level one a.0 node_one low a.1 in
    let long_two = leaf_counted D old second level two b.0 node_two low b.1 in
    let fit_one = (node_fits D old first level one node_one).leaf low in
    let fit_two = (node_fits D old second level two node_two).leaf low in
    let some = many.leaf low in
    let most = c.objects_that_fit.ensures in
    c.are_few.ensures.accepts
    (omega (arith, fit_one, count_one, long_one, most))
    (omega (arith, fit_two, count_two, long_two, most))
    (omega (arith, some, count_one, count_two, long_one, long_two, most))
    (omega (arith, few, count_one, count_two, long_one, long_two, most))

pub returns-in_err-one-clause-damage : goal.returns-in_err-one-clause-damage
returns-in_err-one-clause-damage g c = λ h.
    at_error c.from_residual.result c.in_err-one.field-0.0 _
    c.from_residual.ensures.1
    (λ n damaged. inl
    (damaged_read c.in_err-one.field-0.0 c.args.first n (c.in_err-one.ensures.damage h) damaged))

pub returns-in_err-two-clause-damage : goal.returns-in_err-two-clause-damage
returns-in_err-two-clause-damage g c = λ h.
    at_error c.from_residual-in_err-two.result c.in_err-two.field-0.0 _
    c.from_residual-in_err-two.ensures.1
    (λ n damaged. inr (damaged_read c.in_err-two.field-0.0 c.args.second n
    (c.in_err-two.ensures.damage (c.in_ok-one.ensures.asks.gate.honest.0 h)) damaged))
