-- A way goes on in the child where the identifier is.
use Rattle.std.proofs.Common.{◌∙◌, ◌-◌, ◌<◌, [], refl, sym, arith, ◌≡◌, subst}
use Rattle.page_cache.specs.Cache.{pages, given}
use Rattle.page_cache.specs.Calls.{asks_in_turn, fault_in}
use Rattle.id_tree.specs.Rows.{LeadsBelow}
use Rattle.id_tree.specs.Tree.{links_of}
use Rattle.id_tree.proofs.ResultLemmas.{if_ok, if_err}
use Rattle.id_tree.proofs.SeekLemmas.{keys_ascend, leads_below, leads_here, may_seek_below, nowhere, seek_same}
use Rattle.id_tree.proofs.WayLemmas.{way_of}
use Rattle.node_page.proofs.NodeLemmas.{at_error}
use Rattle.id_tree.proofs.DamageLemmas.{comes_at, comes_down, comes_under, down_by, named_some}
use Rattle.id_tree.specs.Checked.{ComesDown, NamesChild, SpellsFork}
use Rattle.id_tree.proofs.GivenLemmas.{comes_here, comes_so}
use Rattle.id_tree.proofs.search.+descend.Goals as goal

pub returns-then-level-eq0-clause-found : goal.returns-then-level-eq0-clause-found
returns-then-level-eq0-clause-found g t c = λ h edge row may.
    leads_here c.args.page c.args.level c.args.id row c.if-level-eq0.true

pub returns-in-Some-clause-asks : goal.returns-in-Some-clause-asks
returns-in-Some-clause-asks g t c = asks_in_turn c.args.cache.now c.step.new.cache c.descend.new.cache
    (fault_in c.descend.result) c.in_ok-way.ensures.asks c.descend.ensures.asks

pub returns-in-Some-clause-found : goal.returns-in-Some-clause-found
returns-in-Some-clause-found g t c = λ h edge row may.
    let D = g.row.D in
    let high : 0 < c.args.level = omega (arith, c.if-level-eq0.false) in
    let old = pages c.args.cache.now in
    let asks = c.in_ok-way.ensures.asks in
    let route = c.in_ok-way.ensures.child h (record { level = c.args.level; links = links_of row })
    (may.stands.node.fork high) (keys_ascend D old c.args.page c.args.level edge row high may.stands) in
    let way = way_of D old c.args.page c.args.level edge row c.args.id c.in-Some.child high may.stands
    (sym c.in-Some.is ∙ route) in
    let below = may_seek_below D old c.args.page c.args.level edge c.args.id c.in-Some.child row high
    may.stands way may.single in
    if_ok c.descend.result (LeadsBelow c.in-Some.child (c.args.level - 1) c.args.id way.below)
    (LeadsBelow c.args.page c.args.level c.args.id row)
    (leads_below D old c.args.page c.args.level edge c.args.id c.in-Some.child row high may.stands way)
    (c.descend.ensures.found (asks.gate.honest.0 h) _ way.below
    (seek_same D old (pages c.step.new.cache) c.in-Some.child (c.args.level - 1) _ way.below
    (asks.map.pages_stay h) below))

pub returns-in-Some-clause-stands : goal.returns-in-Some-clause-stands
returns-in-Some-clause-stands g t c = λ h edge row may.
    let D = g.row.D in
    let high : 0 < c.args.level = omega (arith, c.if-level-eq0.false) in
    let old = pages c.args.cache.now in
    let asks = c.in_ok-way.ensures.asks in
    let route = c.in_ok-way.ensures.child h (record { level = c.args.level; links = links_of row })
    (may.stands.node.fork high) (keys_ascend D old c.args.page c.args.level edge row high may.stands) in
    let way = way_of D old c.args.page c.args.level edge row c.args.id c.in-Some.child high may.stands
    (sym c.in-Some.is ∙ route) in
    let below = may_seek_below D old c.args.page c.args.level edge c.args.id c.in-Some.child row high
    may.stands way may.single in
    c.descend.ensures.stands (asks.gate.honest.0 h) _ way.below
    (seek_same D old (pages c.step.new.cache) c.in-Some.child (c.args.level - 1) _ way.below
    (asks.map.pages_stay h) below)

pub returns-in-None-clause-found : goal.returns-in-None-clause-found
returns-in-None-clause-found g t c = λ h edge row may.
    let D = g.row.D in
    let high : 0 < c.args.level = omega (arith, c.if-level-eq0.false) in
    let old = pages c.args.cache.now in
    let route = c.in_ok-way.ensures.child h (record { level = c.args.level; links = links_of row })
    (may.stands.node.fork high) (keys_ascend D old c.args.page c.args.level edge row high may.stands) in
    nowhere D old c.args.level c.args.id row high may.stands.below (sym c.in-None.is ∙ route)

pub returns-then-level-eq0-clause-comes : goal.returns-then-level-eq0-clause-comes
returns-then-level-eq0-clause-comes g t c = λ h.
    comes_here g.row.D (given c.args.cache.now) c.args.page c.args.page refl

pub returns-in_err-way-clause-damage : goal.returns-in_err-way-clause-damage
returns-in_err-way-clause-damage g t c = λ h.
    at_error c.from_residual.result c.in_err-way.field-0.0 _
    c.from_residual.ensures.1 (λ n damaged.
    comes_at g.row.D (given c.args.cache.now) c.args.page n c.in_err-way.field-0.0
    (c.in_err-way.ensures.damage h) damaged)

pub returns-in-Some-clause-comes : goal.returns-in-Some-clause-comes
returns-in-Some-clause-comes g t c = λ h.
    let names = named_some (NamesChild g.row.D (given c.args.cache.now) c.args.page) c.in_ok-way.way.child
    c.in-Some.child c.in-Some.is
    (c.in_ok-way.ensures.names h) in
    let same = c.in_ok-way.ensures.asks.map.given_stay h in
    let honest = c.in_ok-way.ensures.asks.gate.honest.0 h in
    if_ok c.descend.result _ _
    (comes_under g.row.D (given c.args.cache.now) (given c.step.new.cache) c.args.page c.in-Some.child same
    names) (c.descend.ensures.comes honest)

pub returns-in-Some-clause-damage : goal.returns-in-Some-clause-damage
returns-in-Some-clause-damage g t c = λ h.
    let names = named_some (NamesChild g.row.D (given c.args.cache.now) c.args.page) c.in_ok-way.way.child
    c.in-Some.child c.in-Some.is
    (c.in_ok-way.ensures.names h) in
    let same = c.in_ok-way.ensures.asks.map.given_stay h in
    let honest = c.in_ok-way.ensures.asks.gate.honest.0 h in
    if_err c.descend.result _ _
    (λ f comes n damaged. comes_down g.row.D (given c.args.cache.now) c.args.page c.in-Some.child n names
    (comes_so g.row.D (given c.args.cache.now) (given c.step.new.cache) c.in-Some.child n same
    (comes n damaged)))
    (c.descend.ensures.damage honest)

-- ---- the levels of the way

pub returns-then-level-eq0-clause-down : goal.returns-then-level-eq0-clause-down
returns-then-level-eq0-clause-down g t c = λ h. ([], (c.if-level-eq0.true, refl))

pub returns-in-Some-clause-down : goal.returns-in-Some-clause-down
returns-in-Some-clause-down g t c = λ h.
    let D = g.row.D in
    let old = given c.args.cache.now in
    let mid = given c.step.new.cache in
    let page = c.args.page in
    let way = c.in_ok-way.way in
    let high : 0 < c.args.level = omega (arith, c.if-level-eq0.false) in
    let level : way.level ≡ c.args.level = omega (arith, c.if-way-level.false) in
    let fork = subst (λ l. SpellsFork D old page l way.count) level (c.in_ok-way.ensures.fork h) in
    let names = named_some (NamesChild D old page) way.child c.in-Some.child c.in-Some.is
    (c.in_ok-way.ensures.names h) in
    if_ok c.descend.result (ComesDown D mid c.in-Some.child (c.args.level - 1))
    (ComesDown D old page c.args.level)
    (down_by D old mid page c.in-Some.child c.args.level way.count (c.in_ok-way.ensures.asks.map.given_stay h)
    high fork names) (c.descend.ensures.down (c.in_ok-way.ensures.asks.gate.honest.0 h))

pub returns-in-None-clause-down : goal.returns-in-None-clause-down
returns-in-None-clause-down g t c = λ h.
    let D = g.row.D in
    let old = given c.args.cache.now in
    let way = c.in_ok-way.way in
    let level : way.level ≡ c.args.level = omega (arith, c.if-way-level.false) in
    let none = c.in_ok-way.ensures.none c.in-None.is in (
      [],
      subst (λ n. SpellsFork D old c.args.page c.args.level n) none
          (subst (λ l. SpellsFork D old c.args.page l way.count) level (c.in_ok-way.ensures.fork h)),
    )
