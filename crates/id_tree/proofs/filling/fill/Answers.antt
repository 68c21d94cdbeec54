-- The goals of `fill` that are proved by hand.
use Rattle.std.proofs.Common.{◌∙◌, ◌+◌, ◌≤◌, ap, arith, drop, length, length-drop, ◌≡◌, subst, sym, take}
use Rattle.std.specs.FinMap.{FinMap}
use Rattle.std.specs.Ordering.{nat_cmp}
use Rattle.box_math.specs.Objects.{Object}
use Rattle.page_cache.specs.Calls.{changes_and_refuses, no_call_changes}
use Rattle.node_page.specs.Faults.{IsNoDamage}
use Rattle.node_page.proofs.NodeLemmas.{at_error}
use Rattle.id_tree.proofs.FillLemmas.{all_of, few_so_far, filling_begins, fills_on, new_taken}
use Rattle.page_cache.specs.Cache.{touched_of}
use Rattle.id_words.specs.Objects.{AreNew, pairs_in}
use Rattle.id_words.proofs.EntryLemmas.{as_many_listed, few_taken, taken_behind}
use Rattle.id_tree.specs.Tree.{objects_of}
use Rattle.id_tree.proofs.DamageLemmas.{not_before, said_before}
use Rattle.id_tree.proofs.filling.fill.Given as given
use Rattle.id_tree.proofs.filling.fill.Goals as goal
use Rattle.id_tree.proofs.filling.fill.Goals.{After-fill_run}

pub loop-filled-init : goal.loop-filled-init
loop-filled-init g c = record {
  filling = filling_begins g.row.D c.args.root c.args.cache.now (pairs_in c.args.entries.now)
      (no_call_changes c.args.cache.now);
  within = omega arith;
  grows = omega arith;
}

taken : (g : given.Over) (c : After-fill_run g)
    → c.deref.result.now ≡ take 145 (drop c.loop-filled.filled (pairs_in c.args.entries.now))
taken g c =
    c.deref.ensures.0
    ∙ taken_behind c.args.entries.now c.loop-filled.filled c.first_objects-objects.result.items
    c.first_objects-objects.ensures

-- those that are taken are new where the others are
all_new : (g : given.Over) (c : After-fill_run g) (kept : FinMap nat_cmp Object)
    → AreNew kept (drop c.loop-filled.filled (pairs_in c.args.entries.now)) → AreNew kept c.deref.result.now
all_new g c kept new =
    subst (AreNew kept) (sym (taken g c))
    (new_taken kept 145 (drop c.loop-filled.filled (pairs_in c.args.entries.now)) new)

pub loop-filled-preserved : goal.loop-filled-preserved
loop-filled-preserved g c =
    let so_far = c.loop-filled.invariant in
    let objects = pairs_in c.args.entries.now in
    let filled = c.loop-filled.filled in
    let count = c.in_ok-filled.field-0 in
    let added = c.in_ok-filled.ensures in
    let batch = taken g (goal.at.loop-filled-preserved g c).After-fill_run in
    let within : filled + count ≤ length objects = omega (
      arith,
      so_far.within,
      added.within,
      ap length batch,
      few_taken 145 (drop filled objects),
      length-drop filled objects,
      as_many_listed c.args.entries.now,
    ) in
    record {
      filling = fills_on so_far.filling c.fill_run.new.cache count 145 _ batch added.within within added.changes
          (λ map t at stands new. (added.fills map t at stands new).sound)
          (λ map t at stands new. (added.fills map t at stands new).tidy)
          (λ map t at stands new. (added.fills map t at stands new).made);
      within = omega (arith, within, as_many_listed c.args.entries.now);
      grows = omega (arith, so_far.grows, added.grows, added.some);
    }

pub returns-in_err-filled-clause-changes : goal.returns-in_err-filled-clause-changes
returns-in_err-filled-clause-changes g c =
    changes_and_refuses c.args.cache.now c.loop-filled.cache c.fill_run.new.cache
    c.in_err-filled.field-0.0 c.from_residual.result c.from_residual.ensures.1
    c.loop-filled.invariant.filling.changes c.in_err-filled.ensures.changes

pub returns-in_err-filled-clause-sound : goal.returns-in_err-filled-clause-sound
returns-in_err-filled-clause-sound g c = λ map t at stands new.
    let f = c.loop-filled.invariant.filling.left map t at stands new in
    (c.in_err-filled.ensures.fills f.map_is f.table (f.page ∙ at) f.stands
    (all_new g (goal.at.returns-in_err-filled-clause-sound g c).After-fill_run (objects_of f.table)
    f.rest)).sound

pub returns-in_err-filled-clause-faults : goal.returns-in_err-filled-clause-faults
returns-in_err-filled-clause-faults g c = λ map t at stands new.
    let f = c.loop-filled.invariant.filling.left map t at stands new in
    at_error c.from_residual.result c.in_err-filled.field-0.0 (IsNoDamage c.fill_run.new.cache)
    c.from_residual.ensures.1
    (c.in_err-filled.ensures.fills f.map_is f.table (f.page ∙ at) f.stands
    (all_new g (goal.at.returns-in_err-filled-clause-faults g c).After-fill_run (objects_of f.table)
    f.rest)).faults

pub returns-clause-filled : goal.returns-clause-filled
returns-clause-filled g c = λ map t at stands new.
    let all : length (pairs_in c.args.entries.now) ≤ c.loop-filled.filled =
    omega (arith, c.loop-filled-test.false, as_many_listed c.args.entries.now) in
    all_of all (c.loop-filled.invariant.filling.left map t at stands new)

pub returns-clause-sound : goal.returns-clause-sound
returns-clause-sound g c = λ map t at stands new.
    (c.loop-filled.invariant.filling.left map t at stands new).map_is

pub returns-in_err-filled-clause-grows_few : goal.returns-in_err-filled-clause-grows_few
returns-in_err-filled-clause-grows_few g c = λ map t at stands new.
    let so_far = c.loop-filled.invariant in
    let few =
    few_so_far g.row.D c.args.root c.args.cache.now c.loop-filled.cache (pairs_in c.args.entries.now)
    c.loop-filled.filled (omega (arith, so_far.within, as_many_listed c.args.entries.now)) so_far.filling map t at stands new in
    omega (arith, few, c.in_err-filled.ensures.grows, as_many_listed c.args.entries.now)

pub returns-clause-grows_few : goal.returns-clause-grows_few
returns-clause-grows_few g c = λ map t at stands new.
    let so_far = c.loop-filled.invariant in
    let few =
    few_so_far g.row.D c.args.root c.args.cache.now c.loop-filled.cache (pairs_in c.args.entries.now)
    c.loop-filled.filled (omega (arith, so_far.within, as_many_listed c.args.entries.now)) so_far.filling map t at stands new in
    omega (arith, few, as_many_listed c.args.entries.now)

pub returns-clause-tidy : goal.returns-clause-tidy
returns-clause-tidy g c = λ map t at stands new.
    (c.loop-filled.invariant.filling.left map t at stands new).tidy

pub returns-in_err-filled-clause-damage : goal.returns-in_err-filled-clause-damage
returns-in_err-filled-clause-damage g c = λ h none.
    let old = c.args.cache.now in
    let mid = c.loop-filled.cache in
    let changes = c.loop-filled.invariant.filling.changes in
    let before = not_before (touched_of mid) (touched_of c.fill_run.new.cache)
    c.in_err-filled.ensures.changes.touched none in
    at_error c.from_residual.result c.in_err-filled.field-0.0 _ c.from_residual.ensures.1
    (λ n damaged. said_before g.row.D old mid c.args.root n (changes.untouched before) h
    (c.in_err-filled.ensures.damage (changes.honest.0 h) none n damaged))
