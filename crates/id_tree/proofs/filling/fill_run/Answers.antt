-- The objects of a run are pushed into its leaf, or the first one is added by itself.
use Rattle.id_tree.proofs.WorksLemmas.{works_done, works_handed, works_refused}
use Rattle.std.proofs.Common.{[], ◌∷◌, None, inl, subst}
use Rattle.page_cache.specs.Cache.{pages}
use Rattle.page_cache.specs.Calls.{asks_changes, changes_and_refuses, changes_in_turn}
use Rattle.node_page.proofs.NodeLemmas.{at_error}
use Rattle.id_tree.specs.Changes.{Fills}
use Rattle.id_tree.specs.Tree.{objects_of}
use Rattle.id_tree.proofs.DamageLemmas.{said_before}
use Rattle.id_tree.proofs.FillLemmas.{fills_from, fills_one, first_new, first_of, new_taken}
use Rattle.id_tree.proofs.RootLemmas.{tree_same}
use Rattle.id_tree.proofs.RunLemmas.{counted_run}
use Rattle.id_tree.proofs.TidyLemmas.{tidy_in_turn, tidy_same}
use Rattle.id_tree.proofs.filling.fill_run.Goals as goal

pub returns-in_err-add_object-clause-changes : goal.returns-in_err-add_object-clause-changes
returns-in_err-add_object-clause-changes g c =
    changes_and_refuses c.args.cache.now c.run_from.new.cache c.add_object.new.cache
    c.in_err-add_object.field-0.0 c.from_residual-in_err-add_object.result
    c.from_residual-in_err-add_object.ensures.1
    (asks_changes c.args.cache.now c.run_from.new.cache None c.in_ok-run.ensures.asks)
    c.in_err-add_object.ensures.changes

pub returns-in_err-add_object-clause-damage : goal.returns-in_err-add_object-clause-damage
returns-in_err-add_object-clause-damage g c = λ h none.
    let D = g.row.D in
    let old = c.args.cache.now in
    let asks = c.in_ok-run.ensures.asks in
    at_error c.from_residual-in_err-add_object.result c.in_err-add_object.field-0.0 _
    c.from_residual-in_err-add_object.ensures.1
    (λ n damaged. said_before D old c.run_from.new.cache c.args.root n asks.map h
    (c.in_err-add_object.ensures.damage (asks.gate.honest.0 h) none n damaged))

pub returns-then-count-eq0-clause-changes : goal.returns-then-count-eq0-clause-changes
returns-then-count-eq0-clause-changes g c =
    changes_in_turn c.args.cache.now c.run_from.new.cache c.add_object.new.cache None
    (asks_changes c.args.cache.now c.run_from.new.cache None c.in_ok-run.ensures.asks)
    c.in_ok-add_object.ensures.changes

pub returns-in_err-push_all-clause-changes : goal.returns-in_err-push_all-clause-changes
returns-in_err-push_all-clause-changes g c =
    changes_and_refuses c.args.cache.now c.run_from.new.cache c.push_all.new.cache
    c.in_err-push_all.field-0.0 c.from_residual-in_err-push_all.result
    c.from_residual-in_err-push_all.ensures.1
    (asks_changes c.args.cache.now c.run_from.new.cache None c.in_ok-run.ensures.asks)
    c.in_err-push_all.ensures.changes

pub returns-clause-changes : goal.returns-clause-changes
returns-clause-changes g c =
    changes_in_turn c.args.cache.now c.run_from.new.cache c.push_all.new.cache None
    (asks_changes c.args.cache.now c.run_from.new.cache None c.in_ok-run.ensures.asks)
    c.in_ok-push_all.ensures.changes

pub returns-in_err-run-clause-fills : goal.returns-in_err-run-clause-fills
returns-in_err-run-clause-fills g c = λ map t at stands new.
    works_refused c.in_err-run.field-0.0 c.from_residual.ensures.1 (c.in_err-run.ensures.asks.map.sound.0 map)
    (inl (c.in_err-run.ensures.stands map.honest t at stands))

pub returns-in_err-add_object-clause-fills : goal.returns-in_err-add_object-clause-fills
returns-in_err-add_object-clause-fills g c = λ map t at stands new.
    let D = g.row.D in
    let old = pages c.args.cache.now in
    let mid = pages c.run_from.new.cache in
    let asks = c.in_ok-run.ensures.asks in
    let same = asks.map.pages_stay map.honest in
    let tree = tree_same D old mid t same stands in
    works_handed (c.in_err-add_object.ensures.takes (asks.map.sound.0 map) t at tree)
    c.from_residual-in_err-add_object.ensures.1 (λ why. why)

pub returns-then-count-eq0-clause-fills : goal.returns-then-count-eq0-clause-fills
returns-then-count-eq0-clause-fills g c = λ map t at stands new.
    let D = g.row.D in
    let old = pages c.args.cache.now in
    let mid = pages c.run_from.new.cache in
    let asks = c.in_ok-run.ensures.asks in
    let same = asks.map.pages_stay map.honest in
    let tree = tree_same D old mid t same stands in
    let now = pages c.add_object.new.cache in
    let objects = c.args.objects.now in
    let object = c.index-objects-0-then-count-eq0.result in
    let is = c.index-objects-0-then-count-eq0.is in
    let absent = first_new (objects_of t) objects object c.requires.some is new in
    let set = c.in_ok-add_object.ensures.takes (asks.map.sound.0 map) t at tree in
    works_done set (tidy_same D old mid same)
    (subst (Fills D old now t) (first_of objects 0 object c.requires.some is)
    (fills_from D old mid now t (object ∷ []) same (fills_one D mid now t object (set.made absent))))

pub returns-in_err-push_all-clause-fills : goal.returns-in_err-push_all-clause-fills
returns-in_err-push_all-clause-fills g c = λ map t at stands new.
    let D = g.row.D in
    let old = pages c.args.cache.now in
    let mid = pages c.run_from.new.cache in
    let asks = c.in_ok-run.ensures.asks in
    let same = asks.map.pages_stay map.honest in
    let tree = tree_same D old mid t same stands in
    let run = c.in_ok-run.run' in
    let count = c.count_of_run-count in
    let takes = counted_run D t c.args.root _ run.upto run.leaf run.room count.result
    c.args.objects.now at (c.in_ok-run.ensures.found map.honest t at stands) c.if-count-eq0.false
    count.ensures.few count.ensures.within count.ensures.range in
    let fresh = new_taken (objects_of t) count.result c.args.objects.now new in
    works_refused c.in_err-push_all.field-0.0 c.from_residual-in_err-push_all.ensures.1
    (c.in_err-push_all.ensures.sound (asks.map.sound.0 map) t tree takes fresh)
    (inl (c.in_err-push_all.ensures.faults (asks.map.sound.0 map) t tree takes fresh))

pub returns-clause-fills : goal.returns-clause-fills
returns-clause-fills g c = λ map t at stands new.
    let D = g.row.D in
    let old = pages c.args.cache.now in
    let mid = pages c.run_from.new.cache in
    let asks = c.in_ok-run.ensures.asks in
    let same = asks.map.pages_stay map.honest in
    let tree = tree_same D old mid t same stands in
    let run = c.in_ok-run.run' in
    let count = c.count_of_run-count in
    let takes = counted_run D t c.args.root _ run.upto run.leaf run.room count.result
    c.args.objects.now at (c.in_ok-run.ensures.found map.honest t at stands) c.if-count-eq0.false
    count.ensures.few count.ensures.within count.ensures.range in
    let fresh = new_taken (objects_of t) count.result c.args.objects.now new in
    let now = pages c.push_all.new.cache in
    let map1 = asks.map.sound.0 map in
    record {
      sound = c.in_ok-push_all.ensures.sound map1 t tree takes fresh;
      tidy = tidy_in_turn D old mid now (tidy_same D old mid same)
          (c.in_ok-push_all.ensures.tidy map1 t tree takes fresh);
      made = fills_from D old mid now t _ same (c.in_ok-push_all.ensures.filled map1 t tree takes fresh);
      faults = tt;
    }
