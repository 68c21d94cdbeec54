-- The goals of `nearest` that are proved by hand.
use Rattle.std.proofs.Common.{◌≡◌, ◌∙◌, ℕ, None, List, IfOk, ap, subst, arith}
use Rattle.page_file.specs.Fault.{IsOfDevice}
use Rattle.page_file.specs.declared.fault.Fault.TheVariants as fault
use Rattle.page_cache.specs.Cache.{given}
use Rattle.page_cache.specs.Calls.{asks_and_refuses, asks_in_turn}
use Rattle.node_page.proofs.NodeLemmas.{at_error, if_error}
use Rattle.nearest.specs.Candidates.{work_in}
use Rattle.nearest.proofs.DamageLemmas.{refused_there}
use Rattle.nearest.proofs.SearchLemmas.{asks_then_memory, begins, finished, first_reached, leaf_on, node_on}
use Rattle.nearest.proofs.SearchLemmas.{node_there, on_ok}
use Rattle.nearest.proofs.WorkLemmas.{moved_work, node_work, settled_work, some_work}
use Rattle.nearest.proofs.search.nearest.Goals as goal

pub loop-first-init : goal.loop-first-init
loop-first-init g c =
    rw (c.in_ok-fresh.ensures.items, c.in_ok-best.ensures.none)
    (begins g.row.D c.args.k c.args.root c.args.point.now c.args.cache.now c.push.new.self c.requires.some
    (rw c.in_ok-queue.ensures.none at c.in_ok-push.ensures.ok))

pub returns-in_err-look_at_objects-clause-stands : goal.returns-in_err-look_at_objects-clause-stands
returns-in_err-look_at_objects-clause-stands g c = λ h t most tree.
    let node =
    node_there c.loop-first.invariant c.in-Some.first c.take_within.new.queue c.in-Some.ensures.some
    c.in-Some.ensures.first c.in-Some.ensures.within h t most tree in
    at_error c.from_residual-in_err-look_at_objects.result c.in_err-look_at_objects.field-0.0 IsOfDevice
    c.from_residual-in_err-look_at_objects.ensures.1
    (c.in_err-look_at_objects.ensures.there (c.loop-first.invariant.asks.gate.honest.0 h) node.0 node.1
    (node.2 ∙ c.if-first-eq0.true))

pub loop-first-smaller-in-Continue-branch-6 : goal.loop-first-smaller-in-Continue-branch-6
loop-first-smaller-in-Continue-branch-6 g c =
    let gone = c.in_ok-settle.ensures.all.0 in
    let before =
    node_work c.in-Some.first c.loop-first.queue c.take_within.new.queue c.in-Some.ensures.some in
    let some = some_work c.in-Some.first in
    let moved =
    moved_work c.take_within.new.queue c.loop-first.fresh.items c.settle.new.queue gone
    c.in_ok-settle.ensures.all.1 in
    let none : work_in c.settle.new.fresh.items ≡ 0 = ap work_in c.in_ok-settle.ensures.none_left in
    omega (arith, before, some, moved, none)

pub loop-first-preserved-in-Continue-branch-6 : goal.loop-first-preserved-in-Continue-branch-6
loop-first-preserved-in-Continue-branch-6 g c =
    rw c.in_ok-settle.ensures.none_left
    (leaf_on c.loop-first.invariant c.in-Some.first c.take_within.new.queue c.in-Some.ensures.some
    c.in-Some.ensures.first c.in-Some.ensures.within c.if-first-eq0.true
    c.look_at_objects.new.cache c.look_at_objects.new.best c.settle.new.queue c.in_ok-settle.ensures.all.0
    c.in_ok-look_at_objects.ensures.asks c.in_ok-look_at_objects.ensures.looks
    c.in_ok-look_at_objects.ensures.few
    c.in_ok-look_at_objects.ensures.best c.in_ok-settle.ensures.all.1 c.in_ok-settle.ensures.all.2)

pub returns-in_err-settle-clause-asks : goal.returns-in_err-settle-clause-asks
returns-in_err-settle-clause-asks g c =
    asks_then_memory c.args.cache.now c.look_at_objects.new.cache c.in_err-settle.field-0.0
    c.from_residual-in_err-settle.result c.from_residual-in_err-settle.ensures.1
    c.in_err-settle.ensures.memory
    (asks_in_turn c.args.cache.now c.loop-first.cache c.look_at_objects.new.cache None
    c.loop-first.invariant.asks c.in_ok-look_at_objects.ensures.asks)

pub returns-in_err-look_at_children-clause-asks : goal.returns-in_err-look_at_children-clause-asks
returns-in_err-look_at_children-clause-asks g c =
    asks_and_refuses c.args.cache.now c.loop-first.cache c.look_at_children.new.cache
    c.in_err-look_at_children.field-0.0 c.from_residual-in_err-look_at_children.result
    c.from_residual-in_err-look_at_children.ensures.1 c.loop-first.invariant.asks
    c.in_err-look_at_children.ensures.asks

pub returns-in_err-look_at_children-clause-stands : goal.returns-in_err-look_at_children-clause-stands
returns-in_err-look_at_children-clause-stands g c = λ h t most tree.
    let node =
    node_there c.loop-first.invariant c.in-Some.first c.take_within.new.queue c.in-Some.ensures.some
    c.in-Some.ensures.first c.in-Some.ensures.within h t most tree in
    at_error c.from_residual-in_err-look_at_children.result c.in_err-look_at_children.field-0.0 IsOfDevice
    c.from_residual-in_err-look_at_children.ensures.1
    (c.in_err-look_at_children.ensures.there (c.loop-first.invariant.asks.gate.honest.0 h) node.0 node.1
    node.2)

pub loop-first-smaller : goal.loop-first-smaller
loop-first-smaller g c =
    let gone = c.in_ok-settle_many.ensures.all.0 in
    let before =
    node_work c.in-Some.first c.loop-first.queue c.take_within.new.queue c.in-Some.ensures.some in
    let moved =
    settled_work c.take_within.new.queue c.loop-first.fresh.items c.settle_many.new.queue
    c.settle_many.new.fresh.items gone c.in_ok-settle_many.ensures.all.1 in
    let below = c.in_ok-look_at_children.ensures.work in
    let pushed =
    moved_work c.settle_many.new.queue c.look_at_children.new.fresh.items c.push_nearest.new.queue
    c.push_nearest.new.fresh.items c.in_ok-push_nearest.ensures.all in
    omega (arith, before, moved, below, pushed)

pub loop-first-preserved : goal.loop-first-preserved
loop-first-preserved g c =
    node_on c.loop-first.invariant c.in-Some.first c.take_within.new.queue c.in-Some.ensures.some
    c.in-Some.ensures.first c.in-Some.ensures.within (omega (arith, c.if-first-eq0.false))
    c.look_at_children.new.cache c.settle_many.new.queue c.settle_many.new.fresh.items
    c.in_ok-settle_many.ensures.all.0 c.look_at_children.new.fresh.items c.push_nearest.new.queue
    c.push_nearest.new.fresh.items
    c.in_ok-look_at_children.ensures.asks c.in_ok-look_at_children.ensures.looks
    c.in_ok-settle_many.ensures.all.1 c.in_ok-settle_many.ensures.all.2
    c.in_ok-look_at_children.ensures.children (λ h. c.in_ok-look_at_children.ensures.named h)
    c.in_ok-push_nearest.ensures.all
    c.in_ok-push_nearest.ensures.led

pub returns-in_err-push_nearest-clause-asks : goal.returns-in_err-push_nearest-clause-asks
returns-in_err-push_nearest-clause-asks g c =
    asks_then_memory c.args.cache.now c.look_at_children.new.cache c.in_err-push_nearest.field-0.0
    c.from_residual-in_err-push_nearest.result c.from_residual-in_err-push_nearest.ensures.1
    c.in_err-push_nearest.ensures.memory
    (asks_in_turn c.args.cache.now c.loop-first.cache c.look_at_children.new.cache None
    c.loop-first.invariant.asks c.in_ok-look_at_children.ensures.asks)

pub returns-clause-rows : goal.returns-clause-rows
returns-clause-rows g c = λ h t most tree.
    let answer = finished c.loop-first.invariant c.requires.some c.in_default.ensures.none h t most tree in
    subst (λ (rs : List (ℕ × ℕ)). IfOk c.into_rows.result (λ rows. rows.items ≡ rs)) answer.rows_are
    c.into_rows.ensures.rows

pub returns-clause-looks : goal.returns-clause-looks
returns-clause-looks g c = λ h t most tree.
    let answer = finished c.loop-first.invariant c.requires.some c.in_default.ensures.none h t most tree in
    on_ok _ c.into_rows.result answer.looks_are

pub returns-in_err-look_at_objects-clause-asks : goal.returns-in_err-look_at_objects-clause-asks
returns-in_err-look_at_objects-clause-asks g c =
    asks_and_refuses c.args.cache.now c.loop-first.cache c.look_at_objects.new.cache
    c.in_err-look_at_objects.field-0.0 c.from_residual-in_err-look_at_objects.result
    c.from_residual-in_err-look_at_objects.ensures.1 c.loop-first.invariant.asks
    c.in_err-look_at_objects.ensures.asks

pub returns-in_err-look_at_objects-clause-damage : goal.returns-in_err-look_at_objects-clause-damage
returns-in_err-look_at_objects-clause-damage g c = λ h.
    let so_far = c.loop-first.invariant in
    at_error c.from_residual-in_err-look_at_objects.result c.in_err-look_at_objects.field-0.0 _
    c.from_residual-in_err-look_at_objects.ensures.1
    (λ n damaged. refused_there g.row.D (given c.args.cache.now) c.args.root.page c.in-Some.first
    c.in_err-look_at_objects.field-0.0 n
    (first_reached so_far c.in-Some.first c.take_within.new.queue c.in-Some.ensures.some
    c.in-Some.ensures.first h)
    (c.in_err-look_at_objects.ensures.faults (so_far.asks.gate.honest.0 h)) damaged)

pub returns-in_err-look_at_children-clause-damage : goal.returns-in_err-look_at_children-clause-damage
returns-in_err-look_at_children-clause-damage g c = λ h.
    let so_far = c.loop-first.invariant in
    at_error c.from_residual-in_err-look_at_children.result c.in_err-look_at_children.field-0.0 _
    c.from_residual-in_err-look_at_children.ensures.1
    (λ n damaged. refused_there g.row.D (given c.args.cache.now) c.args.root.page c.in-Some.first
    c.in_err-look_at_children.field-0.0 n
    (first_reached so_far c.in-Some.first c.take_within.new.queue c.in-Some.ensures.some
    c.in-Some.ensures.first h)
    (c.in_err-look_at_children.ensures.faults (so_far.asks.gate.honest.0 h)) damaged)

pub returns-clause-damage : goal.returns-clause-damage
returns-clause-damage g c = λ h.
    if_error c.into_rows.result
    (λ f. f ≡ fault.Memory) _
    (λ f (memory : f ≡ fault.Memory) n (damaged : f ≡ fault.Damaged n). absurd (cc))
    c.into_rows.ensures.memory
