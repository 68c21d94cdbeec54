-- A way begins at the root.
use Rattle.std.proofs.Common.{◌≡◌, ◌∙◌, ◌-◌, ◌<◌, ℕ, [], true, ap, arith, subst, sym}
use Rattle.std.specs.Prelude.{IfOk}
use Rattle.page_cache.specs.Cache.{pages, given}
use Rattle.page_cache.specs.Calls.{asks_in_turn, fault_in}
use Rattle.id_tree.specs.Rows.{LeadsBelow, MaySeek}
use Rattle.id_tree.specs.Tree.{at_edge, links_of}
use Rattle.id_tree.proofs.ResultLemmas.{if_ok, if_err}
use Rattle.id_tree.proofs.RootLemmas.{root_fork}
use Rattle.id_tree.proofs.SeekLemmas.{keys_ascend, leads_below, may_seek_below, may_seek_root, nowhere}
use Rattle.id_tree.proofs.SeekLemmas.{seek_same}
use Rattle.id_tree.proofs.WayLemmas.{way_of}
use Rattle.page_file.specs.declared.fault.Fault.TheVariants as fault
use Rattle.node_page.proofs.NodeLemmas.{at_error}
use Rattle.id_tree.proofs.DamageLemmas.{comes_at, comes_down, comes_under, damaged_is, down_by, named_some}
use Rattle.id_tree.specs.Checked.{ComesDown, NamesChild, SpellsFork}
use Rattle.id_tree.proofs.GivenLemmas.{comes_here, comes_so}
use Rattle.id_tree.proofs.search.leaf_below.Goals as goal

pub returns-in-Some-clause-asks : goal.returns-in-Some-clause-asks
returns-in-Some-clause-asks g c = asks_in_turn c.args.cache.now c.step.new.cache c.descend.new.cache
    (fault_in c.descend.result) c.in_ok-way.ensures.asks c.descend.ensures.asks

pub returns-in-Some-clause-found : goal.returns-in-Some-clause-found
returns-in-Some-clause-found g c = λ h table at stands.
    let D = g.row.D in
    let root = c.args.root in
    let old = pages c.args.cache.now in
    let mid = pages c.step.new.cache in
    let asks = c.in_ok-way.ensures.asks in
    let may = may_seek_root D old root table at stands in
    let fork = root_fork D old root table at stands in
    let route = c.in_ok-way.ensures.child h (record { level = table.level; links = links_of table.row }) fork
    (keys_ascend D old root table.level _ table.row stands.high may.stands) in
    let down : table.level - 1 ≡ c.in_ok-way.way.level - 1 =
    ap (λ (l : ℕ). l - 1)
    (sym (c.in_ok-way.ensures.level h (record { level = table.level; links = links_of table.row }) fork))
    in
    let way = way_of D old root table.level _ table.row c.args.id c.in-Some.child stands.high may.stands
    (sym c.in-Some.is ∙ route) in
    let below = seek_same D old mid c.in-Some.child (table.level - 1) (at_edge true way.rest) way.below
    (asks.map.pages_stay h)
    (may_seek_below D old root table.level _ c.args.id c.in-Some.child table.row stands.high may.stands
    way may.single) in
    if_ok c.descend.result (LeadsBelow c.in-Some.child (table.level - 1) c.args.id way.below)
    (LeadsBelow root table.level c.args.id table.row)
    (leads_below D old root table.level _ c.args.id c.in-Some.child table.row stands.high may.stands way)
    (subst (λ (l : ℕ). IfOk c.descend.result (LeadsBelow c.in-Some.child l c.args.id way.below)) (sym down)
    (c.descend.ensures.found (asks.gate.honest.0 h) (at_edge true way.rest) way.below
    (subst (λ (l : ℕ). MaySeek D mid c.in-Some.child l (at_edge true way.rest) way.below) down below)))

pub returns-in-Some-clause-stands : goal.returns-in-Some-clause-stands
returns-in-Some-clause-stands g c = λ h table at stands.
    let D = g.row.D in
    let root = c.args.root in
    let old = pages c.args.cache.now in
    let mid = pages c.step.new.cache in
    let asks = c.in_ok-way.ensures.asks in
    let may = may_seek_root D old root table at stands in
    let fork = root_fork D old root table at stands in
    let route = c.in_ok-way.ensures.child h (record { level = table.level; links = links_of table.row }) fork
    (keys_ascend D old root table.level _ table.row stands.high may.stands) in
    let down : table.level - 1 ≡ c.in_ok-way.way.level - 1 =
    ap (λ (l : ℕ). l - 1)
    (sym (c.in_ok-way.ensures.level h (record { level = table.level; links = links_of table.row }) fork))
    in
    let way = way_of D old root table.level _ table.row c.args.id c.in-Some.child stands.high may.stands
    (sym c.in-Some.is ∙ route) in
    let below = seek_same D old mid c.in-Some.child (table.level - 1) (at_edge true way.rest) way.below
    (asks.map.pages_stay h)
    (may_seek_below D old root table.level _ c.args.id c.in-Some.child table.row stands.high may.stands
    way may.single) in
    c.descend.ensures.stands (asks.gate.honest.0 h) (at_edge true way.rest) way.below
    (subst (λ (l : ℕ). MaySeek D mid c.in-Some.child l (at_edge true way.rest) way.below) down below)

pub returns-in-None-clause-found : goal.returns-in-None-clause-found
returns-in-None-clause-found g c = λ h table at stands.
    let D = g.row.D in
    let old = pages c.args.cache.now in
    let may = may_seek_root D old c.args.root table at stands in
    let route = c.in_ok-way.ensures.child h (record { level = table.level; links = links_of table.row })
    (root_fork D old c.args.root table at stands)
    (keys_ascend D old c.args.root table.level _ table.row stands.high may.stands) in
    nowhere D old table.level c.args.id table.row stands.high stands.below (sym c.in-None.is ∙ route)

pub returns-in_err-way-clause-damage : goal.returns-in_err-way-clause-damage
returns-in_err-way-clause-damage g c = λ h.
    at_error c.from_residual.result c.in_err-way.field-0.0 _
    c.from_residual.ensures.1 (λ n damaged.
    comes_at g.row.D (given c.args.cache.now) c.args.root n c.in_err-way.field-0.0
    (c.in_err-way.ensures.damage h) damaged)

pub returns-then-way-eq0-clause-damage : goal.returns-then-way-eq0-clause-damage
returns-then-way-eq0-clause-damage g c = λ h n (damaged : fault.Damaged c.args.root ≡ fault.Damaged n).
    comes_here g.row.D (given c.args.cache.now) c.args.root n (damaged_is c.args.root n damaged)

pub returns-in-Some-clause-comes : goal.returns-in-Some-clause-comes
returns-in-Some-clause-comes g c = λ h.
    let names = named_some (NamesChild g.row.D (given c.args.cache.now) c.args.root) c.in_ok-way.way.child
    c.in-Some.child c.in-Some.is
    (c.in_ok-way.ensures.names h) in
    let same = c.in_ok-way.ensures.asks.map.given_stay h in
    let honest = c.in_ok-way.ensures.asks.gate.honest.0 h in
    if_ok c.descend.result _ _
    (comes_under g.row.D (given c.args.cache.now) (given c.step.new.cache) c.args.root c.in-Some.child same
    names) (c.descend.ensures.comes honest)

pub returns-in-Some-clause-damage : goal.returns-in-Some-clause-damage
returns-in-Some-clause-damage g c = λ h.
    let names = named_some (NamesChild g.row.D (given c.args.cache.now) c.args.root) c.in_ok-way.way.child
    c.in-Some.child c.in-Some.is
    (c.in_ok-way.ensures.names h) in
    let same = c.in_ok-way.ensures.asks.map.given_stay h in
    let honest = c.in_ok-way.ensures.asks.gate.honest.0 h in
    if_err c.descend.result _ _
    (λ f comes n damaged. comes_down g.row.D (given c.args.cache.now) c.args.root c.in-Some.child n names
    (comes_so g.row.D (given c.args.cache.now) (given c.step.new.cache) c.in-Some.child n same
    (comes n damaged)))
    (c.descend.ensures.damage honest)

-- ---- the levels of the way

pub returns-in-Some-clause-down : goal.returns-in-Some-clause-down
returns-in-Some-clause-down g c = λ h.
    let D = g.row.D in
    let old = given c.args.cache.now in
    let mid = given c.step.new.cache in
    let root = c.args.root in
    let way = c.in_ok-way.way in
    let high : 0 < way.level = omega (arith, c.if-way-eq0.false) in
    let names = named_some (NamesChild D old root) way.child c.in-Some.child c.in-Some.is
    (c.in_ok-way.ensures.names h) in
    if_ok c.descend.result (ComesDown D mid c.in-Some.child (way.level - 1)) _
    (λ leaf comes. (
      way.level,
      down_by D old mid root c.in-Some.child way.level way.count
          (c.in_ok-way.ensures.asks.map.given_stay h) high (c.in_ok-way.ensures.fork h) names leaf comes,
    ))
    (c.descend.ensures.down (c.in_ok-way.ensures.asks.gate.honest.0 h))

pub returns-in-None-clause-down : goal.returns-in-None-clause-down
returns-in-None-clause-down g c = λ h.
    let way = c.in_ok-way.way in (
      way.level,
      (
        [],
        subst (SpellsFork g.row.D (given c.args.cache.now) c.args.root way.level)
            (c.in_ok-way.ensures.none c.in-None.is) (c.in_ok-way.ensures.fork h),
      ),
    )
