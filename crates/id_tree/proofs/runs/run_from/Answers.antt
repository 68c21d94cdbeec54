-- A run begins at the root.
use Rattle.std.proofs.Common.{◌≡◌, ◌∙◌, ◌-◌, ◌<◌, ◌≤◌, ℕ, true, ap, sym, subst}
use Rattle.std.specs.Prelude.{IfOk}
use Rattle.page_cache.specs.Cache.{given, pages}
use Rattle.page_cache.specs.Calls.{asks_in_turn, fault_in}
use Rattle.node_page.proofs.NodeLemmas.{at_error}
use Rattle.id_words.proofs.Results.{if_both}
use Rattle.id_tree.specs.Checked.{NamesChild}
use Rattle.id_tree.specs.Rows.{NodeStands}
use Rattle.id_tree.specs.Runs.{HasRun}
use Rattle.id_tree.specs.Tree.{at_edge, links_of}
use Rattle.id_tree.proofs.DamageLemmas.{comes_at, comes_down, named_some}
use Rattle.id_tree.proofs.GivenLemmas.{comes_so}
use Rattle.id_tree.proofs.NodeLemmas.{stands_same}
use Rattle.id_tree.proofs.ResultLemmas.{if_err, if_ok}
use Rattle.id_tree.proofs.RootLemmas.{root_fork}
use Rattle.id_tree.proofs.RunLemmas.{run_down, stops_too, stops_upto}
use Rattle.id_tree.proofs.SeekLemmas.{keys_ascend, may_seek_root}
use Rattle.id_tree.proofs.WayLemmas.{child_stands, way_of}
use Rattle.id_tree.proofs.runs.run_from.Goals as goal

pub returns-in-Some-clause-asks : goal.returns-in-Some-clause-asks
returns-in-Some-clause-asks g c = asks_in_turn c.args.cache.now c.step.new.cache c.run_below.new.cache
    (fault_in c.run_below.result) c.in_ok-way.ensures.asks c.run_below.ensures.asks

pub returns-in-Some-clause-found : goal.returns-in-Some-clause-found
returns-in-Some-clause-found g c = λ h table at stands.
    let D = g.row.D in
    let root = c.args.root in
    let level = table.level in
    let row = table.row in
    let id = c.args.id in
    let child = c.in-Some.child in
    let high = stands.high in
    let old = pages c.args.cache.now in
    let mid = pages c.step.new.cache in
    let asks = c.in_ok-way.ensures.asks in
    let s = (may_seek_root D old root table at stands).stands in
    let fork = root_fork D old root table at stands in
    let ascend = keys_ascend D old root level true row high s in
    let route = c.in_ok-way.ensures.child h (record { level = level; links = links_of row }) fork ascend in
    let place = c.in_ok-way.ensures.place h (record { level = level; links = links_of row }) fork ascend in
    let upto = c.in_ok-way.ensures.upto h (record { level = level; links = links_of row }) fork in
    let down : level - 1 ≡ c.in_ok-way.way.level - 1 =
    ap (λ (l : ℕ). l - 1)
    (sym (c.in_ok-way.ensures.level h (record { level = level; links = links_of row }) fork)) in
    let way = way_of D old root level true row id child high s (sym c.in-Some.is ∙ route) in
    let stops = stops_upto D old root level true id child row high s way c.in_ok-way.way.place
    c.in_ok-way.way.upto place upto in
    let edge = at_edge true way.rest in
    let below = stands_same D old mid child (level - 1) edge way.below (asks.map.pages_stay h)
    (child_stands D old root level true id child row high s way) in
    if_both c.run_below.result (λ run. run.upto ≤ c.in_ok-way.way.upto)
    (λ run. 0 < run.room → HasRun D child (level - 1) way.below id run.upto run.leaf run.room)
    (λ run. 0 < run.room → HasRun D root level row id run.upto run.leaf run.room)
    c.run_below.ensures.within
    (subst (λ (l : ℕ). IfOk c.run_below.result
    (λ run. 0 < run.room → HasRun D child l way.below id run.upto run.leaf run.room)) (sym down)
    (c.run_below.ensures.found (asks.gate.honest.0 h) edge way.below
    (subst (λ (l : ℕ). NodeStands D mid child l edge way.below) down below)))
    (λ run less is some. run_down D old root level true id child row high s way run.upto run.leaf run.room
    (stops_too run.upto c.in_ok-way.way.upto way.rest less stops) (is some))

pub returns-in-Some-clause-stands : goal.returns-in-Some-clause-stands
returns-in-Some-clause-stands g c = λ h table at stands.
    let D = g.row.D in
    let root = c.args.root in
    let level = table.level in
    let row = table.row in
    let id = c.args.id in
    let child = c.in-Some.child in
    let high = stands.high in
    let old = pages c.args.cache.now in
    let mid = pages c.step.new.cache in
    let asks = c.in_ok-way.ensures.asks in
    let s = (may_seek_root D old root table at stands).stands in
    let fork = root_fork D old root table at stands in
    let route = c.in_ok-way.ensures.child h (record { level = level; links = links_of row }) fork
    (keys_ascend D old root level true row high s) in
    let down : level - 1 ≡ c.in_ok-way.way.level - 1 =
    ap (λ (l : ℕ). l - 1)
    (sym (c.in_ok-way.ensures.level h (record { level = level; links = links_of row }) fork)) in
    let way = way_of D old root level true row id child high s (sym c.in-Some.is ∙ route) in
    let edge = at_edge true way.rest in
    c.run_below.ensures.stands (asks.gate.honest.0 h) edge way.below
    (subst (λ (l : ℕ). NodeStands D mid child l edge way.below) down
    (stands_same D old mid child (level - 1) edge way.below (asks.map.pages_stay h)
    (child_stands D old root level true id child row high s way)))

pub returns-in-Some-clause-comes : goal.returns-in-Some-clause-comes
returns-in-Some-clause-comes g c = λ h.
    let D = g.row.D in
    let old = given c.args.cache.now in
    let names = named_some (NamesChild D old c.args.root) c.in_ok-way.way.child c.in-Some.child c.in-Some.is
    (c.in_ok-way.ensures.names h) in
    let same = c.in_ok-way.ensures.asks.map.given_stay h in
    if_ok c.run_below.result _ _
    (λ run comes. comes_down D old c.args.root c.in-Some.child run.leaf names
    (comes_so D old (given c.step.new.cache) c.in-Some.child run.leaf same comes))
    (c.run_below.ensures.comes (c.in_ok-way.ensures.asks.gate.honest.0 h))

pub returns-in-Some-clause-damage : goal.returns-in-Some-clause-damage
returns-in-Some-clause-damage g c = λ h.
    let D = g.row.D in
    let old = given c.args.cache.now in
    let names = named_some (NamesChild D old c.args.root) c.in_ok-way.way.child c.in-Some.child c.in-Some.is
    (c.in_ok-way.ensures.names h) in
    let same = c.in_ok-way.ensures.asks.map.given_stay h in
    if_err c.run_below.result _ _
    (λ f comes n damaged. comes_down D old c.args.root c.in-Some.child n names
    (comes_so D old (given c.step.new.cache) c.in-Some.child n same (comes n damaged)))
    (c.run_below.ensures.damage (c.in_ok-way.ensures.asks.gate.honest.0 h))

pub returns-in_err-way-clause-damage : goal.returns-in_err-way-clause-damage
returns-in_err-way-clause-damage g c = λ h.
    at_error c.from_residual.result c.in_err-way.field-0.0 _
    c.from_residual.ensures.1 (λ n damaged.
    comes_at g.row.D (given c.args.cache.now) c.args.root n c.in_err-way.field-0.0
    (c.in_err-way.ensures.damage h) damaged)
