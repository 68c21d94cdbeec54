-- The goals of `fill` that are proved by hand.
use Rattle.std.proofs.Common.{◌≡◌, ◌∙◌, List, drop, ◌<◌, ◌≤◌, ap, arith, false, length, ⊎_elim}
use Rattle.std.proofs.Common.{inl, inr, refl}
use Rattle.std.proofs.Common.{length-drop, subst, sym, take}
use Rattle.bucket_page.specs.Layout.{Entry}
use Rattle.page_cache.specs.Cache.{Grows, IsPageMap, pages, touched_of}
use Rattle.page_cache.specs.Calls.{changes_and_refuses, no_call_changes}
use Rattle.node_page.specs.Faults.{IsNoDamage}
use Rattle.node_page.proofs.NodeLemmas.{at_error}
use Rattle.id_words.specs.Objects.{AreNew, pairs_in}
use Rattle.id_words.proofs.EntryLemmas.{as_many_listed, few_taken, taken_behind, taken_of}
use Rattle.id_chains.specs.Changes.{Fills}
use Rattle.id_chains.specs.Pages.{IsWholeRun, first_class}
use Rattle.id_chains.specs.Table.{objects_of}
use Rattle.id_chains.proofs.FillLemmas.{all_filled, filling_begins, fills_on, next_is_low, next_of_some}
use Rattle.id_chains.proofs.FillLemmas.{first_new, first_of_taken, run_takes, whole_of_taken}
use Rattle.id_chains.proofs.FirstLemmas.{begins_before, begins_untouched, kept_in_turn, nothing_added}
use Rattle.id_chains.proofs.filling.fill.Given as given
use Rattle.id_chains.proofs.filling.fill.Goals as goal
use Rattle.id_chains.proofs.filling.fill.Goals.{After-add_run}

pub loop-filled-init : goal.loop-filled-init
loop-filled-init g c = record {
  filling =
      filling_begins g.row.D c.args.directory c.args.cache.now (pairs_in c.args.entries.now)
      (no_call_changes c.args.cache.now);
  within = omega arith;
  grows = omega arith;
  takes = λ _. omega arith;
  untouched = inl refl;
  kept = λ map. nothing_added g.row.D c.args.directory c.args.cache.now map;
}

taken : (g : given.Over) (c : After-add_run g)
    → c.deref.result.now ≡ take 145 (drop c.loop-filled.filled (pairs_in c.args.entries.now))
taken g c =
    c.deref.ensures.0
    ∙ taken_behind c.args.entries.now c.loop-filled.filled c.first_objects-objects.result.items
    c.first_objects-objects.ensures

pub loop-filled-preserved : goal.loop-filled-preserved
loop-filled-preserved g c =
    let so_far = c.loop-filled.invariant in
    let objects = pairs_in c.args.entries.now in
    let filled = c.loop-filled.filled in
    let rest = drop filled objects in
    let count = c.in_ok-filled.field-0 in
    let batch = taken g (goal.at.loop-filled-preserved g c).After-add_run in
    let few : count ≤ length (take 145 rest) =
    subst (λ (es : List Entry). count ≤ length es) batch c.in_ok-filled.ensures.count.1 in
    let first : take count c.deref.result.now ≡ take count rest =
    ap (take count) batch ∙ taken_of count 145 rest few in
    record {
      filling =
          fills_on so_far.filling count c.add_run.new.cache c.in_ok-filled.ensures.changes
          c.in_ok-filled.ensures.sound (λ map t at stands new.
          subst (λ (es : List Entry). Fills g.row.D (pages c.loop-filled.cache) (pages c.add_run.new.cache) t es)
          first
          (c.in_ok-filled.ensures.added map t at stands
          (subst (AreNew (objects_of t)) (sym batch) (first_new 145 rest (objects_of t) new))))
          c.in_ok-filled.ensures.tidy;
      within = omega (
        arith,
        few,
        few_taken 145 rest,
        length-drop filled objects,
        as_many_listed c.args.entries.now,
        so_far.within,
      );
      grows = omega (arith, so_far.grows, c.in_ok-filled.ensures.grows, c.in_ok-filled.ensures.count.0);
      takes = λ sorted. run_takes c.args.cache.now c.loop-filled.cache c.add_run.new.cache objects filled
          count sorted (omega (arith, c.loop-filled-test.true, as_many_listed c.args.entries.now))
          (so_far.takes sorted)
          c.in_ok-filled.ensures.grows
          (⊎_elim
          (λ (none : Grows 0 c.loop-filled.cache c.add_run.new.cache). inl none)
          (λ (whole : IsWholeRun c.deref.result.now count). inr (whole_of_taken count 145 rest (omega arith)
          (subst (λ (es : List Entry). IsWholeRun es count) batch whole)))
          c.in_ok-filled.ensures.whole);
      untouched = inr c.in_ok-filled.ensures.touched;
      kept = λ map.
          let kept = so_far.kept map in
          kept_in_turn g.row.D c.args.directory c.args.cache.now c.loop-filled.cache c.add_run.new.cache kept
          (c.in_ok-filled.ensures.kept kept.sound);
    }

pub returns-in_err-filled-clause-damage : goal.returns-in_err-filled-clause-damage
returns-in_err-filled-clause-damage g c = λ h either.
    let D = g.row.D in
    let old = c.args.cache.now in
    let now = c.loop-filled.cache in
    let new = c.add_run.new.cache in
    let so_far = c.loop-filled.invariant in
    let objects = pairs_in c.args.entries.now in
    let filled = c.loop-filled.filled in
    let d = c.args.directory in
    let rest = drop filled objects in
    let some : 0 < length rest =
    omega (arith, c.loop-filled-test.true, length-drop filled objects, as_many_listed c.args.entries.now) in
    let low = next_of_some rest some in
    let batch = taken g (goal.at.returns-in_err-filled-clause-damage g c).After-add_run in
    let same = ap (λ (es : List Entry). first_class es) batch ∙ first_of_taken 145 rest (omega arith) in
    let class = first_class c.deref.result.now in
    let small : class < 1000 = omega (arith, low.0, low.1, same) in
    at_error c.from_residual.result c.in_err-filled.field-0.0 _
    c.from_residual.ensures.1
    (λ n damaged.
    let names = c.in_err-filled.ensures.damage (so_far.filling.changes.honest.0 h) n damaged in
    ⊎_elim
    (λ (map : IsPageMap old). inl (
      class,
      small,
      begins_before D d class n old now (so_far.kept map) names
          (c.in_err-filled.ensures.spelled (so_far.kept map).sound n damaged),
    ))
    (λ (none : touched_of new ≡ false). begins_untouched D d class n old now new small so_far.untouched
    c.in_err-filled.ensures.changes.touched none names)
    either)

pub returns-in_err-filled-clause-changes : goal.returns-in_err-filled-clause-changes
returns-in_err-filled-clause-changes g c =
    changes_and_refuses c.args.cache.now c.loop-filled.cache c.add_run.new.cache c.in_err-filled.field-0.0
    c.from_residual.result c.from_residual.ensures.1 c.loop-filled.invariant.filling.changes
    c.in_err-filled.ensures.changes

pub returns-in_err-filled-clause-sound : goal.returns-in_err-filled-clause-sound
returns-in_err-filled-clause-sound g c = λ map t at stands new.
    let f = c.loop-filled.invariant.filling.left map t at stands new in
    c.in_err-filled.ensures.sound f.map_is f.table (f.page ∙ at) f.stands

pub returns-in_err-filled-clause-faults : goal.returns-in_err-filled-clause-faults
returns-in_err-filled-clause-faults g c = λ map t at stands new.
    let f = c.loop-filled.invariant.filling.left map t at stands new in
    at_error c.from_residual.result c.in_err-filled.field-0.0 (IsNoDamage c.add_run.new.cache)
    c.from_residual.ensures.1 (c.in_err-filled.ensures.faults f.map_is f.table (f.page ∙ at) f.stands)

pub returns-in_err-filled-clause-grows_in_order : goal.returns-in_err-filled-clause-grows_in_order
returns-in_err-filled-clause-grows_in_order g c = λ sorted.
    let objects = pairs_in c.args.entries.now in
    let filled = c.loop-filled.filled in
    let some : 0 < length (drop filled objects) =
    omega (arith, c.loop-filled-test.true, length-drop filled objects, as_many_listed c.args.entries.now) in
    omega (
      arith,
      c.loop-filled.invariant.takes sorted,
      c.in_err-filled.ensures.grows,
      c.loop-filled.invariant.within,
      (next_of_some (drop filled objects) some).1,
    )

pub returns-clause-grows_in_order : goal.returns-clause-grows_in_order
returns-clause-grows_in_order g c = λ sorted.
    omega (
      arith,
      c.loop-filled.invariant.takes sorted,
      c.loop-filled.invariant.within,
      next_is_low (drop c.loop-filled.filled (pairs_in c.args.entries.now)),
    )

pub returns-clause-filled : goal.returns-clause-filled
returns-clause-filled g c = λ map t at stands new.
    let all : length (pairs_in c.args.entries.now) ≤ c.loop-filled.filled =
    omega (arith, c.loop-filled-test.false, as_many_listed c.args.entries.now) in
    all_filled g.row.D c.args.directory c.args.cache.now c.loop-filled.cache (pairs_in c.args.entries.now)
    c.loop-filled.filled all c.loop-filled.invariant.filling map t at stands new

pub returns-clause-sound : goal.returns-clause-sound
returns-clause-sound g c =
    λ map t at stands new. (c.loop-filled.invariant.filling.left map t at stands new).map_is

pub returns-clause-tidy : goal.returns-clause-tidy
returns-clause-tidy g c =
    λ map t at stands new. (c.loop-filled.invariant.filling.left map t at stands new).tidy
