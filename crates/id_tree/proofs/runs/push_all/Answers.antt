-- The goals of `push_all` that are proved by hand.
use Rattle.std.proofs.Common.{◌+◌, ◌<◌, ◌≤◌, arith, drop, length}
use Rattle.page_file.specs.Fault.{IsOfDevice}
use Rattle.page_cache.specs.Cache.{pages}
use Rattle.page_cache.specs.Calls.{changes_and_refuses, no_call_changes}
use Rattle.node_page.proofs.NodeLemmas.{at_error}
use Rattle.id_tree.proofs.FillLemmas.{all_of, next_pushed, pushes_on, pushing_begins}
use Rattle.id_tree.proofs.NodeLemmas.{node_there}
use Rattle.id_tree.proofs.RunLemmas.{leaf_of_run}
use Rattle.id_tree.proofs.runs.push_all.Goals as goal

pub loop-pushed-init : goal.loop-pushed-init
loop-pushed-init g c = record {
  pushing = pushing_begins g.row.D c.args.leaf c.args.cache.now c.args.objects.now
      (no_call_changes c.args.cache.now);
  within = omega arith;
  grows = omega arith;
}

pub loop-pushed-preserved : goal.loop-pushed-preserved
loop-pushed-preserved g c =
    let so_far = c.loop-pushed.invariant in
    let within : c.loop-pushed.pushed < length c.args.objects.now = omega (arith, c.loop-pushed-test.true) in
    let pushed = c.in_ok-push.ensures in
    record {
      pushing = pushes_on so_far.pushing c.index-objects-pushed.result c.push.new.cache within
          c.index-objects-pushed.is pushed.changes pushed.sound pushed.tidy pushed.others pushed.written;
      within = omega (arith, within);
      grows = omega (arith, so_far.grows, pushed.grows);
    }

pub returns-in_err-push-clause-changes : goal.returns-in_err-push-clause-changes
returns-in_err-push-clause-changes g c =
    changes_and_refuses c.args.cache.now c.loop-pushed.cache c.push.new.cache
    c.in_err-push.field-0.0 c.from_residual.result c.from_residual.ensures.1
    c.loop-pushed.invariant.pushing.changes c.in_err-push.ensures.changes

pub returns-in_err-push-clause-sound : goal.returns-in_err-push-clause-sound
returns-in_err-push-clause-sound g c = λ map t stands takes new.
    let D = g.row.D in
    let leaf = c.args.leaf in
    let within : c.loop-pushed.pushed < length c.args.objects.now = omega (arith, c.loop-pushed-test.true) in
    let object = c.index-objects-pushed.result in
    let rest = drop (c.loop-pushed.pushed + 1) c.args.objects.now in
    let mid = pages c.loop-pushed.cache in
    let p = c.loop-pushed.invariant.pushing.left map t stands takes new in
    let next = next_pushed object within c.index-objects-pushed.is p in
    let last = leaf_of_run D mid p.filled.table leaf object rest next.stands next.takes in
    c.in_err-push.ensures.sound next.map_is (node_there D mid leaf 0 next.takes.run.last last.stands.node)

pub returns-in_err-push-clause-faults : goal.returns-in_err-push-clause-faults
returns-in_err-push-clause-faults g c = λ map t stands takes new.
    let D = g.row.D in
    let leaf = c.args.leaf in
    let within : c.loop-pushed.pushed < length c.args.objects.now = omega (arith, c.loop-pushed-test.true) in
    let object = c.index-objects-pushed.result in
    let rest = drop (c.loop-pushed.pushed + 1) c.args.objects.now in
    let mid = pages c.loop-pushed.cache in
    let p = c.loop-pushed.invariant.pushing.left map t stands takes new in
    let next = next_pushed object within c.index-objects-pushed.is p in
    let last = leaf_of_run D mid p.filled.table leaf object rest next.stands next.takes in
    at_error c.from_residual.result c.in_err-push.field-0.0 IsOfDevice c.from_residual.ensures.1
    (c.in_err-push.ensures.faults next.map_is.honest
    (node_there D mid leaf 0 next.takes.run.last last.stands.node))

pub returns-in_err-push-clause-damage : goal.returns-in_err-push-clause-damage
returns-in_err-push-clause-damage g c = λ h.
    at_error c.from_residual.result c.in_err-push.field-0.0
    _ c.from_residual.ensures.1
    (c.in_err-push.ensures.damage (c.loop-pushed.invariant.pushing.changes.honest.0 h))

pub returns-clause-sound : goal.returns-clause-sound
returns-clause-sound g c = λ map t stands takes new.
    (c.loop-pushed.invariant.pushing.left map t stands takes new).filled.map_is

pub returns-clause-tidy : goal.returns-clause-tidy
returns-clause-tidy g c = λ map t stands takes new.
    (c.loop-pushed.invariant.pushing.left map t stands takes new).filled.tidy

pub returns-clause-filled : goal.returns-clause-filled
returns-clause-filled g c = λ map t stands takes new.
    let all : length c.args.objects.now ≤ c.loop-pushed.pushed = omega (arith, c.loop-pushed-test.false) in
    all_of all (c.loop-pushed.invariant.pushing.left map t stands takes new).filled
