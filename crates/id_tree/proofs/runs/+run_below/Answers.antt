-- A run goes on in the child where the identifier is.
use Rattle.std.proofs.Common.{◌≡◌, ◌∙◌, ◌+◌, ◌-◌, ◌<◌, ◌≤◌, ℕ, length, sym, arith, subst}
use Rattle.page_cache.specs.Cache.{given, pages}
use Rattle.page_cache.specs.Calls.{asks_in_turn, fault_in}
use Rattle.node_page.proofs.NodeLemmas.{at_error}
use Rattle.id_page.specs.Leaf.{most_objects}
use Rattle.id_words.proofs.Results.{if_both}
use Rattle.id_tree.specs.Checked.{NamesChild}
use Rattle.id_tree.specs.Runs.{HasRun}
use Rattle.id_tree.specs.Tree.{HasNode, at_edge, links_of, objects_in}
use Rattle.id_tree.proofs.DamageLemmas.{comes_at, comes_down, named_some}
use Rattle.id_tree.proofs.GivenLemmas.{comes_here, comes_so}
use Rattle.id_tree.proofs.NodeLemmas.{stands_same}
use Rattle.id_tree.proofs.ResultLemmas.{if_err, if_ok}
use Rattle.id_tree.proofs.RunLemmas.{run_down, run_of_leaf, stops_too, stops_upto}
use Rattle.id_tree.proofs.SeekLemmas.{keys_ascend}
use Rattle.id_tree.proofs.WayLemmas.{child_stands, way_of}
use Rattle.id_tree.proofs.runs.+run_below.Goals as goal

pub returns-then-level-eq0-clause-found : goal.returns-then-level-eq0-clause-found
returns-then-level-eq0-clause-found g t c = λ h edge row s.
    let D = g.row.D in
    let page = c.args.page in
    let leaf = subst (λ (l : ℕ). HasNode D (pages c.args.cache.now) page l row) c.if-level-eq0.true s.node in
    if_both c.run_at.result (λ run. run.leaf ≡ page)
    (λ run. 0 < run.room → length (objects_in row) + run.room ≤ most_objects D)
    (λ run. 0 < run.room → HasRun D page c.args.level row c.args.id run.upto run.leaf run.room)
    c.run_at.ensures.here (c.run_at.ensures.room h row leaf)
    (λ run is room some. run_of_leaf D page c.args.level row c.args.id run.upto run.leaf run.room
    c.if-level-eq0.true is (room some))

pub returns-in-Some-clause-asks : goal.returns-in-Some-clause-asks
returns-in-Some-clause-asks g t c = asks_in_turn c.args.cache.now c.step.new.cache c.run_below.new.cache
    (fault_in c.run_below.result) c.in_ok-way.ensures.asks c.run_below.ensures.asks

pub returns-in-Some-clause-found : goal.returns-in-Some-clause-found
returns-in-Some-clause-found g t c = λ h edge row s.
    let D = g.row.D in
    let page = c.args.page in
    let level = c.args.level in
    let id = c.args.id in
    let child = c.in-Some.child in
    let high : 0 < level = omega (arith, c.if-level-eq0.false) in
    let old = pages c.args.cache.now in
    let asks = c.in_ok-way.ensures.asks in
    let fork = s.node.fork high in
    let ascend = keys_ascend D old page level edge row high s in
    let route = c.in_ok-way.ensures.child h (record { level = level; links = links_of row }) fork ascend in
    let place = c.in_ok-way.ensures.place h (record { level = level; links = links_of row }) fork ascend in
    let upto = c.in_ok-way.ensures.upto h (record { level = level; links = links_of row }) fork in
    let way = way_of D old page level edge row id child high s (sym c.in-Some.is ∙ route) in
    let stops = stops_upto D old page level edge id child row high s way c.in_ok-way.way.place
    c.in_ok-way.way.upto place upto in
    let below = stands_same D old (pages c.step.new.cache) child (level - 1) (at_edge edge way.rest) way.below
    (asks.map.pages_stay h) (child_stands D old page level edge id child row high s way) in
    if_both c.run_below.result (λ run. run.upto ≤ c.min.result)
    (λ run. 0 < run.room → HasRun D child (level - 1) way.below id run.upto run.leaf run.room)
    (λ run. 0 < run.room → HasRun D page level row id run.upto run.leaf run.room)
    c.run_below.ensures.within
    (c.run_below.ensures.found (asks.gate.honest.0 h) (at_edge edge way.rest) way.below below)
    (λ run less is some. run_down D old page level edge id child row high s way run.upto run.leaf run.room
    (stops_too run.upto c.in_ok-way.way.upto way.rest (omega (arith, less, c.min.ensures)) stops)
    (is some))

pub returns-in-Some-clause-stands : goal.returns-in-Some-clause-stands
returns-in-Some-clause-stands g t c = λ h edge row s.
    let D = g.row.D in
    let page = c.args.page in
    let level = c.args.level in
    let id = c.args.id in
    let child = c.in-Some.child in
    let high : 0 < level = omega (arith, c.if-level-eq0.false) in
    let old = pages c.args.cache.now in
    let asks = c.in_ok-way.ensures.asks in
    let route = c.in_ok-way.ensures.child h (record { level = level; links = links_of row })
    (s.node.fork high) (keys_ascend D old page level edge row high s) in
    let way = way_of D old page level edge row id child high s (sym c.in-Some.is ∙ route) in
    c.run_below.ensures.stands (asks.gate.honest.0 h) (at_edge edge way.rest) way.below
    (stands_same D old (pages c.step.new.cache) child (level - 1) (at_edge edge way.rest) way.below
    (asks.map.pages_stay h) (child_stands D old page level edge id child row high s way))

pub returns-in-Some-clause-comes : goal.returns-in-Some-clause-comes
returns-in-Some-clause-comes g t c = λ h.
    let D = g.row.D in
    let old = given c.args.cache.now in
    let names = named_some (NamesChild D old c.args.page) c.in_ok-way.way.child c.in-Some.child c.in-Some.is
    (c.in_ok-way.ensures.names h) in
    let same = c.in_ok-way.ensures.asks.map.given_stay h in
    if_ok c.run_below.result _ _
    (λ run comes. comes_down D old c.args.page c.in-Some.child run.leaf names
    (comes_so D old (given c.step.new.cache) c.in-Some.child run.leaf same comes))
    (c.run_below.ensures.comes (c.in_ok-way.ensures.asks.gate.honest.0 h))

pub returns-in-Some-clause-damage : goal.returns-in-Some-clause-damage
returns-in-Some-clause-damage g t c = λ h.
    let D = g.row.D in
    let old = given c.args.cache.now in
    let names = named_some (NamesChild D old c.args.page) c.in_ok-way.way.child c.in-Some.child c.in-Some.is
    (c.in_ok-way.ensures.names h) in
    let same = c.in_ok-way.ensures.asks.map.given_stay h in
    if_err c.run_below.result _ _
    (λ f comes n damaged. comes_down D old c.args.page c.in-Some.child n names
    (comes_so D old (given c.step.new.cache) c.in-Some.child n same (comes n damaged)))
    (c.run_below.ensures.damage (c.in_ok-way.ensures.asks.gate.honest.0 h))

pub returns-in_err-way-clause-damage : goal.returns-in_err-way-clause-damage
returns-in_err-way-clause-damage g t c = λ h.
    at_error c.from_residual.result c.in_err-way.field-0.0 _
    c.from_residual.ensures.1 (λ n damaged.
    comes_at g.row.D (given c.args.cache.now) c.args.page n c.in_err-way.field-0.0
    (c.in_err-way.ensures.damage h) damaged)

pub returns-then-level-eq0-clause-comes : goal.returns-then-level-eq0-clause-comes
returns-then-level-eq0-clause-comes g t c = λ h.
    let m = given c.args.cache.now in
    if_ok c.run_at.result _ _
    (λ run is. comes_here g.row.D m c.args.page run.leaf is) c.run_at.ensures.here

pub returns-then-level-eq0-clause-damage : goal.returns-then-level-eq0-clause-damage
returns-then-level-eq0-clause-damage g t c = λ h.
    let m = given c.args.cache.now in
    if_err c.run_at.result _ _
    (λ f either n damaged. comes_at g.row.D m c.args.page n f either damaged) (c.run_at.ensures.damage h)
