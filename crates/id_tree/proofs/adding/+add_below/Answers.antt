-- The object goes on to the child where it belongs, in which room is made first if it is full.
use Rattle.id_tree.proofs.WorksLemmas.{works_after, works_from, works_handed, works_refused, works_same}
use Rattle.std.proofs.Common.{◌<◌, ℕ, None, inl, subst, sym, arith}
use Rattle.page_cache.specs.Cache.{pages, given, touched_of}
use Rattle.page_cache.specs.Calls.{asks_changes, changes_in_turn, no_call_asks, asks_and_changes}
use Rattle.page_cache.specs.Calls.{asks_and_gives_up, changes_and_refuses, fault_in}
use Rattle.node_page.proofs.NodeLemmas.{at_error}
use Rattle.id_tree.specs.Steps.{Becomes, MayGrow}
use Rattle.id_tree.specs.Steps.Step.{adds}
use Rattle.id_tree.proofs.AddLemmas.{absent_after, absent_below, becomes_after, becomes_beneath, becomes_from}
use Rattle.id_tree.proofs.AddLemmas.{grow_beneath, grow_same, may_grow_after, some_links, split_beneath}
use Rattle.id_tree.proofs.ResultLemmas.{if_err}
use Rattle.id_tree.proofs.TidyLemmas.{tidy_in_turn, tidy_same}
use Rattle.id_tree.proofs.DamageLemmas.{comes_at, names_same, said_before, said_below}
use Rattle.id_words.proofs.WriteLemmas.{not_both}
use Rattle.id_tree.proofs.adding.+add_below.Goals as goal

pub returns-in_err-below-clause-changes : goal.returns-in_err-below-clause-changes
returns-in_err-below-clause-changes g t c =
    asks_and_gives_up c.args.cache.now c.args.cache.now c.look_below.new.cache c.in_err-below.field-0.0
    c.from_residual.result c.from_residual.ensures.1 (no_call_asks c.args.cache.now)
    c.in_err-below.ensures.asks

pub returns-then-below-clause-changes : goal.returns-then-below-clause-changes
returns-then-below-clause-changes g t c = asks_and_changes c.args.cache.now c.look_below.new.cache
    c.add_below.new.cache c.add_below.result c.in_ok-below.ensures.asks c.add_below.ensures.changes

pub returns-in_err-child-clause-changes : goal.returns-in_err-child-clause-changes
returns-in_err-child-clause-changes g t c =
    changes_and_refuses c.args.cache.now c.look_below.new.cache c.make_room.new.cache c.in_err-child.field-0.0
    c.from_residual-in_err-child.result c.from_residual-in_err-child.ensures.1
    (asks_changes c.args.cache.now c.look_below.new.cache None c.in_ok-below.ensures.asks)
    c.in_err-child.ensures.changes

pub returns-clause-changes : goal.returns-clause-changes
returns-clause-changes g t c =
    changes_in_turn c.args.cache.now c.make_room.new.cache c.add_below-2.new.cache (fault_in c.add_below-2.result)
    (changes_in_turn c.args.cache.now c.look_below.new.cache c.make_room.new.cache None
    (asks_changes c.args.cache.now c.look_below.new.cache None c.in_ok-below.ensures.asks)
    c.in_ok-child.ensures.changes) c.add_below-2.ensures.changes

pub returns-then-level-eq0-clause-damage : goal.returns-then-level-eq0-clause-damage
returns-then-level-eq0-clause-damage g t c = λ h none.
    if_err c.push_in.result _ _
    (λ f either n damaged. inl (comes_at g.row.D (given c.args.cache.now) c.args.page n f either damaged))
    (c.push_in.ensures.damage h)

pub returns-in_err-below-clause-damage : goal.returns-in_err-below-clause-damage
returns-in_err-below-clause-damage g t c = λ h none.
    at_error c.from_residual.result c.in_err-below.field-0.0 _
    c.from_residual.ensures.1 (λ n damaged. inl (c.in_err-below.ensures.damage h n damaged))

pub returns-then-below-clause-damage : goal.returns-then-below-clause-damage
returns-then-below-clause-damage g t c = λ h none.
    let asks = c.in_ok-below.ensures.asks in
    let p = c.in_ok-below.below.child in
    if_err c.add_below.result _ _
    (λ f either n damaged. said_below g.row.D c.args.cache.now c.look_below.new.cache c.args.page p n asks.map
    h
    (c.in_ok-below.ensures.names h) (either n damaged))
    (c.add_below.ensures.damage (asks.gate.honest.0 h) none)

pub returns-in_err-child-clause-damage : goal.returns-in_err-child-clause-damage
returns-in_err-child-clause-damage g t c = λ h none.
    let D = g.row.D in
    let old = c.args.cache.now in
    let mid = c.look_below.new.cache in
    let page = c.args.page in
    let asks = c.in_ok-below.ensures.asks in
    at_error c.from_residual-in_err-child.result c.in_err-child.field-0.0 _
    c.from_residual-in_err-child.ensures.1 (λ n damaged. said_before D old mid page n asks.map h
    (c.in_err-child.ensures.damage (asks.gate.honest.0 h) none
    (names_same D (given old) (given mid) page c.in_ok-below.below.child (asks.map.given_stay h)
    (c.in_ok-below.ensures.names h)) n damaged))

pub returns-clause-damage : goal.returns-clause-damage
returns-clause-damage g t c = λ h none.
    absurd (not_both (touched_of c.add_below-2.new.cache)
    (c.add_below-2.ensures.changes.touched c.in_ok-child.ensures.touched) none)

pub returns-then-level-eq0-clause-takes : goal.returns-then-level-eq0-clause-takes
returns-then-level-eq0-clause-takes g t c = λ map row may.
    let D = g.row.D in
    let old = pages c.args.cache.now in
    let new = pages c.push_in.new.cache in
    let page = c.args.page in
    let edge = c.args.edge in
    let object = c.args.object.now in
    let low = c.if-level-eq0.true in
    works_same (c.push_in.ensures.takes map row (subst (λ (l : ℕ). MayGrow D old page l edge row) low may))
    (λ u b absent. subst (λ (l : ℕ). Becomes D old new page l edge row object.0 (adds object.1)) (sym low)
    (b absent)) (λ f why. inl why)

pub returns-in_err-below-clause-takes : goal.returns-in_err-below-clause-takes
returns-in_err-below-clause-takes g t c = λ map row may.
    let high : 0 < c.args.level = omega (arith, c.if-level-eq0.false) in
    works_refused c.in_err-below.field-0.0 c.from_residual.ensures.1
    (c.in_err-below.ensures.asks.map.sound.0 map) (inl (c.in_err-below.ensures.there map.honest row may.stands
    (some_links g.row.D (pages c.args.cache.now) c.args.level row high may.stands.below may.some)))

pub returns-then-below-clause-takes : goal.returns-then-below-clause-takes
returns-then-below-clause-takes g t c = λ map row may.
    let D = g.row.D in
    let high : 0 < c.args.level = omega (arith, c.if-level-eq0.false) in
    let page = c.args.page in
    let level = c.args.level in
    let edge = c.args.edge in
    let old = pages c.args.cache.now in
    let mid = pages c.look_below.new.cache in
    let asks = c.in_ok-below.ensures.asks in
    let same = asks.map.pages_stay map.honest in
    let map1 = asks.map.sound.0 map in
    let b = c.in_ok-below.below in
    let id = c.args.object.now.0 in
    let beneath = c.in_ok-below.ensures.found map.honest row may.stands in
    works_from (c.add_below.ensures.takes map1 beneath.way.below
    (grow_beneath D old mid page level edge row id b.child b.place b.last b.room high same may beneath
    c.if-below.true)) same
    (λ u done absent. becomes_beneath D old mid page level edge row id b.child b.place b.last b.room high same
    may beneath (pages c.add_below.new.cache) c.args.object.now.1
    (done (absent_below D old page level edge row id b.child high may.stands beneath.way absent)))
    (λ f why. why)

pub returns-in_err-child-clause-takes : goal.returns-in_err-child-clause-takes
returns-in_err-child-clause-takes g t c = λ map row may.
    let D = g.row.D in
    let high : 0 < c.args.level = omega (arith, c.if-level-eq0.false) in
    let page = c.args.page in
    let level = c.args.level in
    let edge = c.args.edge in
    let old = pages c.args.cache.now in
    let mid = pages c.look_below.new.cache in
    let asks = c.in_ok-below.ensures.asks in
    let same = asks.map.pages_stay map.honest in
    let map1 = asks.map.sound.0 map in
    let b = c.in_ok-below.below in
    let id = c.args.object.now.0 in
    let beneath = c.in_ok-below.ensures.found map.honest row may.stands in
    let splits = split_beneath D old mid page level edge row id b.child b.place b.last b.room high same may
    beneath c.if-below.false in
    works_handed (c.in_err-child.ensures.makes map1 row splits) c.from_residual-in_err-child.ensures.1
    (λ why. why)

pub returns-clause-takes : goal.returns-clause-takes
returns-clause-takes g t c = λ map row may.
    let D = g.row.D in
    let high : 0 < c.args.level = omega (arith, c.if-level-eq0.false) in
    let page = c.args.page in
    let level = c.args.level in
    let edge = c.args.edge in
    let old = pages c.args.cache.now in
    let mid = pages c.look_below.new.cache in
    let asks = c.in_ok-below.ensures.asks in
    let same = asks.map.pages_stay map.honest in
    let map1 = asks.map.sound.0 map in
    let b = c.in_ok-below.below in
    let id = c.args.object.now.0 in
    let beneath = c.in_ok-below.ensures.found map.honest row may.stands in
    let splits = split_beneath D old mid page level edge row id b.child b.place b.last b.room high same may
    beneath c.if-below.false in
    let cut = pages c.make_room.new.cache in
    let new = pages c.add_below-2.new.cache in
    let kept = c.args.object.now.1 in
    let half = c.in_ok-child.child in
    let last = c.in_ok-child.last in
    let makes = c.in_ok-child.ensures.makes map1 row splits in
    let may1 = grow_same D old mid page level edge row same may in
    works_after (c.add_below-2.ensures.takes makes.sound makes.made.way.below
    (may_grow_after D mid cut page level edge row id half last high may1 makes.made))
    (tidy_in_turn D old mid cut (tidy_same D old mid same) makes.tidy)
    (λ u done absent. becomes_from D old mid new page level edge row id (adds kept) same
    (becomes_after D mid cut new page level edge row id half last kept high may.large makes.made
    (done (absent_after D mid cut page level edge row id half last high makes.made absent))))
    (λ f why. why)
