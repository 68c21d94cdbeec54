-- The object is taken in the child where it is, which is joined first if it has too little.
use Rattle.id_tree.proofs.WorksLemmas.{works_after, works_from, works_handed, works_refused, works_same}
use Rattle.std.proofs.Common.{◌<◌, ◌-◌, ℕ, None, subst, sym, arith}
use Rattle.page_cache.specs.Cache.{pages, given, touched_of}
use Rattle.page_cache.specs.Calls.{asks_and_changes, asks_and_gives_up, asks_changes, asks_in_turn}
use Rattle.page_cache.specs.Calls.{changes_and_refuses, changes_in_turn, fault_in, no_call_asks}
use Rattle.node_page.proofs.NodeLemmas.{at_error}
use Rattle.id_tree.specs.Joining.{MayShrink}
use Rattle.id_tree.specs.Steps.{Becomes}
use Rattle.id_tree.specs.Steps.Step.{drops}
use Rattle.id_tree.proofs.AddLemmas.{becomes_from}
use Rattle.id_tree.proofs.NodeLemmas.{node_stays}
use Rattle.id_tree.proofs.RemoveLemmas.{has_below, has_made, may_meet, may_shrink_below, may_shrink_made}
use Rattle.id_tree.proofs.RemoveLemmas.{shrink_same, shrinks_after, shrinks_beneath}
use Rattle.id_tree.proofs.WayLemmas.{child_stands}
use Rattle.id_tree.proofs.TidyLemmas.{tidy_in_turn, tidy_same}
use Rattle.id_tree.proofs.ResultLemmas.{if_err}
use Rattle.id_tree.proofs.DamageLemmas.{comes_at, comes_down, names_same}
use Rattle.id_tree.proofs.GivenLemmas.{comes_so}
use Rattle.id_words.proofs.WriteLemmas.{not_both}
use Rattle.id_tree.proofs.removing.+remove_below.Goals as goal

pub returns-in_err-below-clause-changes : goal.returns-in_err-below-clause-changes
returns-in_err-below-clause-changes g t c =
    asks_and_gives_up c.args.cache.now c.args.cache.now c.look_below.new.cache c.in_err-below.field-0.0
    c.from_residual.result c.from_residual.ensures.1 (no_call_asks c.args.cache.now)
    c.in_err-below.ensures.asks

pub returns-in_err-ample-clause-changes : goal.returns-in_err-ample-clause-changes
returns-in_err-ample-clause-changes g t c =
    asks_and_gives_up c.args.cache.now c.look_below.new.cache c.is_ample.new.cache c.in_err-ample.field-0.0
    c.from_residual-in_err-ample.result c.from_residual-in_err-ample.ensures.1 c.in_ok-below.ensures.asks
    c.in_err-ample.ensures.asks

pub returns-then-ample-clause-changes : goal.returns-then-ample-clause-changes
returns-then-ample-clause-changes g t c =
    asks_and_changes c.args.cache.now c.is_ample.new.cache c.remove_below.new.cache c.remove_below.result
    (asks_in_turn c.args.cache.now c.look_below.new.cache c.is_ample.new.cache None c.in_ok-below.ensures.asks
    c.in_ok-ample.ensures.asks)
    c.remove_below.ensures.changes

pub returns-in_err-child-clause-changes : goal.returns-in_err-child-clause-changes
returns-in_err-child-clause-changes g t c =
    changes_and_refuses c.args.cache.now c.is_ample.new.cache c.join.new.cache c.in_err-child.field-0.0
    c.from_residual-in_err-child.result c.from_residual-in_err-child.ensures.1
    (asks_changes c.args.cache.now c.is_ample.new.cache None
    (asks_in_turn c.args.cache.now c.look_below.new.cache c.is_ample.new.cache None
    c.in_ok-below.ensures.asks c.in_ok-ample.ensures.asks))
    c.in_err-child.ensures.changes

pub returns-clause-changes : goal.returns-clause-changes
returns-clause-changes g t c =
    changes_in_turn c.args.cache.now c.join.new.cache c.remove_below-2.new.cache
    (fault_in c.remove_below-2.result)
    (changes_in_turn c.args.cache.now c.is_ample.new.cache c.join.new.cache None
    (asks_changes c.args.cache.now c.is_ample.new.cache None
    (asks_in_turn c.args.cache.now c.look_below.new.cache c.is_ample.new.cache None
    c.in_ok-below.ensures.asks c.in_ok-ample.ensures.asks))
    c.in_ok-child.ensures.changes)
    c.remove_below-2.ensures.changes

pub returns-then-level-eq0-clause-damage : goal.returns-then-level-eq0-clause-damage
returns-then-level-eq0-clause-damage g t c = λ h none.
    if_err c.take_in.result _ _
    (λ f either n damaged. comes_at g.row.D (given c.args.cache.now) c.args.page n f either damaged)
    (c.take_in.ensures.damage h)

pub returns-then-level-eq0-clause-touched : goal.returns-then-level-eq0-clause-touched
returns-then-level-eq0-clause-touched g t c = c.take_in.ensures.touched

pub returns-in_err-below-clause-damage : goal.returns-in_err-below-clause-damage
returns-in_err-below-clause-damage g t c = λ h none.
    at_error c.from_residual.result c.in_err-below.field-0.0 _
    c.from_residual.ensures.1
    (c.in_err-below.ensures.damage h)

pub returns-in_err-ample-clause-damage : goal.returns-in_err-ample-clause-damage
returns-in_err-ample-clause-damage g t c = λ h none.
    let m = given c.args.cache.now in
    let p = c.in_ok-below.below.child in
    at_error c.from_residual-in_err-ample.result c.in_err-ample.field-0.0 _
    c.from_residual-in_err-ample.ensures.1 (λ n damaged.
    comes_down g.row.D m c.args.page p n (c.in_ok-below.ensures.names h)
    (comes_at g.row.D m p n c.in_err-ample.field-0.0
    (c.in_err-ample.ensures.damage (c.in_ok-below.ensures.asks.gate.honest.0 h)) damaged))

pub returns-then-ample-clause-damage : goal.returns-then-ample-clause-damage
returns-then-ample-clause-damage g t c = λ h none.
    let D = g.row.D in
    let old = c.args.cache.now in
    let mid = c.is_ample.new.cache in
    let page = c.args.page in
    let p = c.in_ok-below.below.child in
    let asks = asks_in_turn old c.look_below.new.cache mid None c.in_ok-below.ensures.asks
    c.in_ok-ample.ensures.asks in
    let same = asks.map.given_stay h in
    if_err c.remove_below.result _ _
    (λ f comes n damaged. comes_down D (given old) page p n (c.in_ok-below.ensures.names h)
    (comes_so D (given old) (given mid) p n same (comes n damaged)))
    (c.remove_below.ensures.damage (asks.gate.honest.0 h) none)

pub returns-then-ample-clause-touched : goal.returns-then-ample-clause-touched
returns-then-ample-clause-touched g t c = c.remove_below.ensures.touched

pub returns-in_err-child-clause-damage : goal.returns-in_err-child-clause-damage
returns-in_err-child-clause-damage g t c = λ h none.
    let D = g.row.D in
    let old = c.args.cache.now in
    let mid = c.is_ample.new.cache in
    let page = c.args.page in
    let p = c.in_ok-below.below.child in
    let asks = asks_in_turn old c.look_below.new.cache mid None c.in_ok-below.ensures.asks
    c.in_ok-ample.ensures.asks in
    let same = asks.map.given_stay h in
    let names = names_same D (given old) (given mid) page p same (c.in_ok-below.ensures.names h) in
    at_error c.from_residual-in_err-child.result c.in_err-child.field-0.0 _
    c.from_residual-in_err-child.ensures.1 (λ n damaged. comes_so D (given old) (given mid) page n same
    (c.in_err-child.ensures.damage (asks.gate.honest.0 h) none names.0 names.1 n damaged))

pub returns-clause-damage : goal.returns-clause-damage
returns-clause-damage g t c = λ h none.
    absurd (not_both (touched_of c.remove_below-2.new.cache)
    (c.remove_below-2.ensures.changes.touched c.in_ok-child.ensures.touched) none)

pub returns-clause-touched : goal.returns-clause-touched
returns-clause-touched g t c = c.remove_below-2.ensures.touched

pub returns-then-level-eq0-clause-removes : goal.returns-then-level-eq0-clause-removes
returns-then-level-eq0-clause-removes g t c = λ map row may.
    let D = g.row.D in
    let old = pages c.args.cache.now in
    let new = pages c.take_in.new.cache in
    let page = c.args.page in
    let edge = c.args.edge in
    let low = c.if-level-eq0.true in
    works_same (c.take_in.ensures.removes map row (subst (λ (l : ℕ). MayShrink D old page l edge row) low may))
    (λ u b. subst (λ (l : ℕ). Becomes D old new page l edge row c.args.id drops) (sym low) b) (λ f why. why)

pub returns-in_err-below-clause-removes : goal.returns-in_err-below-clause-removes
returns-in_err-below-clause-removes g t c = λ map row may.
    let high : 0 < c.args.level = omega (arith, c.if-level-eq0.false) in
    let two = may.spare.fork high in
    works_refused c.in_err-below.field-0.0 c.from_residual.ensures.1
    (c.in_err-below.ensures.asks.map.sound.0 map)
    (λ there. c.in_err-below.ensures.there map.honest row may.stands (omega (arith, two)))

pub returns-in_err-ample-clause-removes : goal.returns-in_err-ample-clause-removes
returns-in_err-ample-clause-removes g t c = λ map row may.
    let D = g.row.D in
    let page = c.args.page in
    let level = c.args.level in
    let edge = c.args.edge in
    let id = c.args.id in
    let b = c.in_ok-below.below in
    let high : 0 < level = omega (arith, c.if-level-eq0.false) in
    let old = pages c.args.cache.now in
    let before = c.in_ok-below.ensures.asks in
    let beneath = c.in_ok-below.ensures.found map.honest row may.stands in
    let node = node_stays D old (pages c.look_below.new.cache) b.child (level - 1) beneath.way.below
    (before.map.pages_stay map.honest b.child)
    (child_stands D old page level edge id b.child row high may.stands beneath.way).node in
    works_refused c.in_err-ample.field-0.0 c.from_residual-in_err-ample.ensures.1
    (c.in_err-ample.ensures.asks.map.sound.0 (before.map.sound.0 map))
    (λ there. c.in_err-ample.ensures.there (before.gate.honest.0 map.honest) beneath.way.below node)

pub returns-then-ample-clause-removes : goal.returns-then-ample-clause-removes
returns-then-ample-clause-removes g t c = λ map row may.
    let D = g.row.D in
    let page = c.args.page in
    let level = c.args.level in
    let edge = c.args.edge in
    let id = c.args.id in
    let b = c.in_ok-below.below in
    let high : 0 < level = omega (arith, c.if-level-eq0.false) in
    let old = pages c.args.cache.now in
    let before = c.in_ok-below.ensures.asks in
    let beneath = c.in_ok-below.ensures.found map.honest row may.stands in
    let node = node_stays D old (pages c.look_below.new.cache) b.child (level - 1) beneath.way.below
    (before.map.pages_stay map.honest b.child)
    (child_stands D old page level edge id b.child row high may.stands beneath.way).node in
    let mid = pages c.is_ample.new.cache in
    let asks = asks_in_turn c.args.cache.now c.look_below.new.cache c.is_ample.new.cache None before
    c.in_ok-ample.ensures.asks in
    let same = asks.map.pages_stay map.honest in
    let map1 = asks.map.sound.0 map in
    let may1 = shrink_same D old mid page level edge row same may in
    let spare = c.in_ok-ample.ensures.ample (before.gate.honest.0 map.honest) b.last beneath.way.below node
    c.if-ample.true in
    let below = may_shrink_below D mid page level edge row id b.child b.last high may1.stands may1.single
    beneath.way beneath.last_is spare in
    let new = pages c.remove_below.new.cache in
    works_from (c.remove_below.ensures.removes map1 beneath.way.below below) same
    (λ u done. becomes_from D old mid new page level edge row id drops same
    (shrinks_beneath D mid new page level edge row id b.child b.last high may1 beneath.way beneath.last_is
    done))
    (λ f why there. why (has_below D old page level edge row id b.child high may.stands beneath.way there))

pub returns-in_err-child-clause-removes : goal.returns-in_err-child-clause-removes
returns-in_err-child-clause-removes g t c = λ map row may.
    let D = g.row.D in
    let page = c.args.page in
    let level = c.args.level in
    let edge = c.args.edge in
    let id = c.args.id in
    let b = c.in_ok-below.below in
    let high : 0 < level = omega (arith, c.if-level-eq0.false) in
    let old = pages c.args.cache.now in
    let before = c.in_ok-below.ensures.asks in
    let beneath = c.in_ok-below.ensures.found map.honest row may.stands in
    let mid = pages c.is_ample.new.cache in
    let asks = asks_in_turn c.args.cache.now c.look_below.new.cache c.is_ample.new.cache None before
    c.in_ok-ample.ensures.asks in
    let same = asks.map.pages_stay map.honest in
    let map1 = asks.map.sound.0 map in
    let may1 = shrink_same D old mid page level edge row same may in
    let meet = may_meet D mid page level edge row id b.child b.place b.last b.room high may1 beneath in
    works_handed (c.in_err-child.ensures.joins map1 b.child row meet)
    c.from_residual-in_err-child.ensures.1 (λ why there. why)

pub returns-clause-removes : goal.returns-clause-removes
returns-clause-removes g t c = λ map row may.
    let D = g.row.D in
    let page = c.args.page in
    let level = c.args.level in
    let edge = c.args.edge in
    let id = c.args.id in
    let b = c.in_ok-below.below in
    let high : 0 < level = omega (arith, c.if-level-eq0.false) in
    let old = pages c.args.cache.now in
    let before = c.in_ok-below.ensures.asks in
    let beneath = c.in_ok-below.ensures.found map.honest row may.stands in
    let mid = pages c.is_ample.new.cache in
    let asks = asks_in_turn c.args.cache.now c.look_below.new.cache c.is_ample.new.cache None before
    c.in_ok-ample.ensures.asks in
    let same = asks.map.pages_stay map.honest in
    let map1 = asks.map.sound.0 map in
    let may1 = shrink_same D old mid page level edge row same may in
    let meet = may_meet D mid page level edge row id b.child b.place b.last b.room high may1 beneath in
    let child = c.in_ok-child.child in
    let last = c.in_ok-child.last in
    let cut = pages c.join.new.cache in
    let new = pages c.remove_below-2.new.cache in
    let joins = c.in_ok-child.ensures.joins map1 b.child row meet in
    works_after (c.remove_below-2.ensures.removes joins.sound joins.made.way.below
    (may_shrink_made D mid cut page level edge row id child last high may1 joins.made))
    (tidy_in_turn D old mid cut (tidy_same D old mid same) joins.tidy)
    (λ u done. becomes_from D old mid new page level edge row id drops same
    (shrinks_after D mid cut new page level edge row id child last high may1 joins.made done))
    (λ f why there. why (has_made D mid cut page level edge row id child last high joins.made there))
