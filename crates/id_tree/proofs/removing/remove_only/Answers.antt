-- The object is taken from the only leaf, or the leaf goes with it.
use Rattle.id_tree.proofs.WorksLemmas.{works_from, works_refused}
use Rattle.std.proofs.Common.{◌<◌, ◌≤◌, refl, length, arith, inl}
use Rattle.page_cache.specs.Cache.{pages}
use Rattle.node_page.proofs.NodeLemmas.{at_error}
use Rattle.id_tree.specs.Tree.{objects_in}
use Rattle.id_tree.proofs.AddLemmas.{leaf_counted}
use Rattle.id_tree.proofs.NodeLemmas.{node_there, there_bytes}
use Rattle.id_tree.proofs.RemoveLemmas.{few_only, has_only, leaf_stands, may_shrink_only, only_same}
use Rattle.id_tree.proofs.RemoveLemmas.{removes_from, removes_only}
use Rattle.node_page.proofs.DamageLemmas.{damaged_read}
use Rattle.id_tree.proofs.ResultLemmas.{if_err}
use Rattle.id_tree.proofs.removing.remove_only.Goals as goal

pub returns-in_err-count-clause-damage : goal.returns-in_err-count-clause-damage
returns-in_err-count-clause-damage g c = λ h none.
    at_error c.from_residual.result c.in_err-count.field-0.0
    _ c.from_residual.ensures.1
    (λ n damaged. inl
    (damaged_read c.in_err-count.field-0.0 c.args.leaf n (c.in_err-count.ensures.damage h) damaged))

pub returns-then-count-gt1-clause-damage : goal.returns-then-count-gt1-clause-damage
returns-then-count-gt1-clause-damage g c = λ h none.
    if_err c.take_in.result _ _
    (λ f either n damaged. inl (damaged_read f c.args.leaf n either damaged))
    (c.take_in.ensures.damage (c.in_ok-count.ensures.asks.gate.honest.0 h))

pub returns-clause-damage : goal.returns-clause-damage
returns-clause-damage g c = λ h none. c.remove_last.ensures.damage
    (c.in_ok-count.ensures.asks.gate.honest.0 h) none

pub returns-in_err-count-clause-removes : goal.returns-in_err-count-clause-removes
returns-in_err-count-clause-removes g c = λ map t at only.
    let D = g.row.D in
    let old = pages c.args.cache.now in
    works_refused c.in_err-count.field-0.0 c.from_residual.ensures.1
    (c.in_err-count.ensures.asks.map.sound.0 map) (λ there. c.in_err-count.ensures.there map.honest
    (node_there D old c.args.leaf 0 only.below
    (leaf_stands D old t c.args.root c.args.leaf c.args.id at only).node))

pub returns-then-count-gt1-clause-removes : goal.returns-then-count-gt1-clause-removes
returns-then-count-gt1-clause-removes g c = λ map t at only.
    let D = g.row.D in
    let root = c.args.root in
    let leaf = c.args.leaf in
    let id = c.args.id in
    let old = pages c.args.cache.now in
    let mid = pages c.count_in.new.cache in
    let asks = c.in_ok-count.ensures.asks in
    let same = asks.map.pages_stay map.honest in
    let map1 = asks.map.sound.0 map in
    let one = only_same D old mid t leaf same only in
    let node = (leaf_stands D old t root leaf id at only).node in
    let bytes = there_bytes D old leaf 0 only.below node in
    let count = c.in_ok-count.ensures.count map.honest bytes.0 bytes.1 in
    let long = leaf_counted D old leaf 0 only.below bytes.0 node refl bytes.1 in
    let many : 1 < length (objects_in only.below) = omega (arith, count, long, c.if-count-gt1.true) in
    let new = pages c.take_in.new.cache in
    works_from (c.take_in.ensures.removes map1 only.below (may_shrink_only D mid t root leaf id at one many))
    same (λ u b. removes_from D old mid new t id same (removes_only D mid t root leaf id at one new b))
    (λ f why there. why (has_only D mid t root leaf id at one there))

pub returns-clause-removes : goal.returns-clause-removes
returns-clause-removes g c = λ map t at only.
    let D = g.row.D in
    let root = c.args.root in
    let leaf = c.args.leaf in
    let id = c.args.id in
    let old = pages c.args.cache.now in
    let mid = pages c.count_in.new.cache in
    let asks = c.in_ok-count.ensures.asks in
    let same = asks.map.pages_stay map.honest in
    let map1 = asks.map.sound.0 map in
    let one = only_same D old mid t leaf same only in
    let node = (leaf_stands D old t root leaf id at only).node in
    let bytes = there_bytes D old leaf 0 only.below node in
    let count = c.in_ok-count.ensures.count map.honest bytes.0 bytes.1 in
    let long = leaf_counted D old leaf 0 only.below bytes.0 node refl bytes.1 in
    let few : length (objects_in only.below) ≤ 1 = omega (arith, count, long, c.if-count-gt1.false) in
    works_from (c.remove_last.ensures.removes map1 t at one (few_only D mid t root leaf id at one few)) same
    (λ u. removes_from D old mid (pages c.remove_last.new.cache) t id same) (λ f why. why)
