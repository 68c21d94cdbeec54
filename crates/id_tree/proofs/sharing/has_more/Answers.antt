-- The counts that both pages say.
use Rattle.std.proofs.Common.{◌∙◌, inl, inr, arith}
use Rattle.std.proofs.lemmas.Bool.Decides.{nat_tests}
use Rattle.page_file.specs.Fault.{IsOfDevice}
use Rattle.page_cache.specs.Cache.{pages}
use Rattle.node_page.proofs.NodeLemmas.{at_error}
use Rattle.node_page.proofs.DamageLemmas.{damaged_read}
use Rattle.id_tree.proofs.SplitLemmas.{live_same}
use Rattle.id_tree.proofs.sharing.has_more.Goals as goal

pub returns-in_err-one-clause-there : goal.returns-in_err-one-clause-there
returns-in_err-one-clause-there g c = λ h one two.
    at_error c.from_residual.result c.in_err-one.field-0.0 IsOfDevice c.from_residual.ensures.1
    (c.in_err-one.ensures.there h one)

pub returns-in_err-two-clause-there : goal.returns-in_err-two-clause-there
returns-in_err-two-clause-there g c = λ h one two.
    let asks = c.in_ok-one.ensures.asks in
    at_error c.from_residual-in_err-two.result c.in_err-two.field-0.0 IsOfDevice
    c.from_residual-in_err-two.ensures.1
    (c.in_err-two.ensures.there (asks.gate.honest.0 h)
    (live_same (pages c.args.cache.now) (pages c.count_in.new.cache) c.args.second (asks.map.pages_stay h)
    two))

pub returns-clause-more : goal.returns-clause-more
returns-clause-more g c = λ h one two is_one is_two yes.
    let asks = c.in_ok-one.ensures.asks in
    let count_one = c.in_ok-one.ensures.count h one is_one in
    let count_two = c.in_ok-two.ensures.count (asks.gate.honest.0 h) two
    (asks.map.pages_stay h c.args.second ∙ is_two) in
    grind (arith, nat_tests)

pub returns-clause-less : goal.returns-clause-less
returns-clause-less g c = λ h one two is_one is_two no.
    let asks = c.in_ok-one.ensures.asks in
    let count_one = c.in_ok-one.ensures.count h one is_one in
    let count_two = c.in_ok-two.ensures.count (asks.gate.honest.0 h) two
    (asks.map.pages_stay h c.args.second ∙ is_two) in
    grind (arith, nat_tests)

pub returns-in_err-one-clause-damage : goal.returns-in_err-one-clause-damage
returns-in_err-one-clause-damage g c = λ h.
    at_error c.from_residual.result c.in_err-one.field-0.0 _
    c.from_residual.ensures.1
    (λ n damaged. inl
    (damaged_read c.in_err-one.field-0.0 c.args.first n (c.in_err-one.ensures.damage h) damaged))

pub returns-in_err-two-clause-damage : goal.returns-in_err-two-clause-damage
returns-in_err-two-clause-damage g c = λ h.
    at_error c.from_residual-in_err-two.result c.in_err-two.field-0.0 _
    c.from_residual-in_err-two.ensures.1
    (λ n damaged. inr (damaged_read c.in_err-two.field-0.0 c.args.second n
    (c.in_err-two.ensures.damage (c.in_ok-one.ensures.asks.gate.honest.0 h)) damaged))
