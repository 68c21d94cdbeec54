-- A reopening of the layers is a step of the store, and a closing.
use Rattle.std.proofs.Common.{inl, inr, refl}
use Rattle.plain_table.specs.Commands.Command.{Reopen}
use Rattle.layer_store.specs.Representation.{device_in}
use Rattle.layer_store.proofs.ChangeLemmas.{cause_told, err_told, not_refused, on_told, refused_goes_on}
use Rattle.layer_store.proofs.ChangeLemmas.{reply_told, step_told, told_end, told_met}
use Rattle.layer_store.proofs.ClosingLemmas.{durable_closed, ends_closed, image_closed, quiet_closed}
use Rattle.layer_store.proofs.ClosingLemmas.{settled_closed, stops_closed}
use Rattle.layer_store.proofs.StopLemmas.{reopening_leaves}
use Rattle.layer_store.proofs.StoreLemmas.{alive_in, dead_so, dead_tells, is_alive, is_dead, not_both}
use Rattle.layer_store.proofs.StoreLemmas.{replies_nothing, takes_nothing}
use Rattle.layer_store.proofs.store.Store.reopen.Goals as goal

pub returns-then-self-clause-step : goal.returns-then-self-clause-step
returns-then-self-clause-step g c = takes_nothing c.args.self.now Reopen c.if-self.true

pub returns-clause-step : goal.returns-clause-step
returns-clause-step g c =
    let old = c.args.self.now in
    let made = c.reopen-closed in
    step_told _ _ c.if-self.false c.tell.ensures tt made.ensures.changed
    (λ t stops sound was. reopening_leaves old.layers made.new.self t stops made.result
    (made.ensures.leaves t sound)
    (λ r is. refused_goes_on old.layers made.new.self t Reopen made.result r
    (λ as_table same. not_refused r as_table) (made.ensures.changed t sound) is)
    (made.ensures.honest.0 sound.map.honest)
    (λ k only takes. g.met.D.BlockDevice.committed _ k (made.ensures.honest.0 sound.map.honest) only
    takes) was)
    (g.met.D.BlockDevice.faults_fit (device_in old)) made.ensures.cause

pub returns-then-self-clause-reply : goal.returns-then-self-clause-reply
returns-then-self-clause-reply g c = replies_nothing c.args.self.now Reopen c.if-self.true

pub returns-clause-reply : goal.returns-clause-reply
returns-clause-reply g c =
    let made = c.reopen-closed in
    reply_told _ _ c.if-self.false c.tell.ensures tt made.ensures.changed
    (g.met.D.BlockDevice.faults_fit (device_in c.args.self.now)) made.ensures.cause

pub returns-clause-honest : goal.returns-clause-honest
returns-clause-honest g c = λ honest. c.reopen-closed.ensures.honest.0 honest

pub returns-then-self-clause-closed : goal.returns-then-self-clause-closed
returns-then-self-clause-closed g c =
    λ t alive end. absurd (not_both _ c.if-self.true (is_alive c.args.self.now t alive).0)

pub returns-clause-closed : goal.returns-clause-closed
returns-clause-closed g c = image_closed _ _ c.if-self.false c.tell.ensures c.reopen-closed.ensures.leaves

pub returns-then-self-clause-stops : goal.returns-then-self-clause-stops
returns-then-self-clause-stops g c =
    λ s t represents alive. absurd
    (not_both _ c.if-self.true (alive_in c.args.self.now s t represents alive).0)

pub returns-clause-stops : goal.returns-clause-stops
returns-clause-stops g c =
    stops_closed c.args.self.now
    (record c.args.self.now { layers = c.reopen-closed.new.self; failed = c.tell.new.failed })
    c.if-self.false c.tell.ensures c.reopen-closed.ensures.leaves

pub returns-then-self-clause-durable : goal.returns-then-self-clause-durable
returns-then-self-clause-durable g c =
    λ t alive end. absurd (not_both _ c.if-self.true (is_alive c.args.self.now t alive).0)

pub returns-clause-durable : goal.returns-clause-durable
returns-clause-durable g c =
    durable_closed _ _ c.if-self.false c.tell.ensures c.reopen-closed.ensures.leaves
    c.reopen-closed.ensures.honest.0

pub returns-clause-now_settled : goal.returns-clause-now_settled
returns-clause-now_settled g c =
    settled_closed c.args.self.now _ c.if-self.false c.tell.ensures c.reopen-closed.ensures.settled

pub returns-then-self-clause-quiet : goal.returns-then-self-clause-quiet
returns-then-self-clause-quiet g c =
    λ t alive settled. absurd (not_both _ c.if-self.true (is_alive c.args.self.now t alive).0)

pub returns-clause-quiet : goal.returns-clause-quiet
returns-clause-quiet g c =
    quiet_closed c.args.self.now
    (record c.args.self.now { layers = c.reopen-closed.new.self; failed = c.tell.new.failed })
    c.if-self.false c.tell.ensures c.reopen-closed.ensures.leaves
    (λ honest b left. g.met.D.BlockDevice.only_now (device_in c.args.self.now) b honest left)

pub returns-clause-dead : goal.returns-clause-dead
returns-clause-dead g c = λ dead. absurd (not_both _ (is_dead c.args.self.now dead) c.if-self.false)

pub returns-clause-cause : goal.returns-clause-cause
returns-clause-cause g c = cause_told c.tell.ensures c.reopen-closed.ensures.cause

pub returns-then-self-clause-ends : goal.returns-then-self-clause-ends
returns-then-self-clause-ends g c = inl (dead_so c.args.self.now c.if-self.true)

pub returns-clause-ends : goal.returns-clause-ends
returns-clause-ends g c =
    ends_closed c.args.self.now _ c.if-self.false c.tell.ensures c.reopen-closed.ensures.refused

pub returns-then-self-clause-ended : goal.returns-then-self-clause-ended
returns-then-self-clause-ended g c = dead_tells c.args.self.now 19 c.if-self.true

pub returns-clause-ended : goal.returns-clause-ended
returns-clause-ended g c =
    told_end c.args.self.now _ c.if-self.false c.tell.ensures c.reopen-closed.ensures.goes_on

pub returns-then-self-clause-trees : goal.returns-then-self-clause-trees
returns-then-self-clause-trees g c =
    λ t alive. absurd (not_both _ c.if-self.true (is_alive c.args.self.now t alive).0)

pub returns-clause-trees : goal.returns-clause-trees
returns-clause-trees g c = λ t alive. c.reopen-closed.ensures.trees t (is_alive c.args.self.now t alive).1

pub returns-then-self-clause-beside : goal.returns-then-self-clause-beside
returns-then-self-clause-beside g c = λ honest n other. refl

pub returns-clause-beside : goal.returns-clause-beside
returns-clause-beside g c = λ honest. c.reopen-closed.ensures.beside honest

pub returns-clause-records : goal.returns-clause-records
returns-clause-records g c = err_told _ c.tell.ensures c.reopen-closed.ensures.records

pub returns-clause-read : goal.returns-clause-read
returns-clause-read g c = λ honest. on_told _ c.tell.ensures (c.reopen-closed.ensures.read honest)

pub returns-then-self-clause-spelled : goal.returns-then-self-clause-spelled
returns-then-self-clause-spelled g c = λ t alive was. was

pub returns-clause-spelled : goal.returns-clause-spelled
returns-clause-spelled g c =
    λ t alive was. c.reopen-closed.ensures.spelled t (is_alive c.args.self.now t alive).1 was

pub returns-then-self-clause-versions : goal.returns-then-self-clause-versions
returns-then-self-clause-versions g c = record { version = λ honest. refl; newest = refl }

pub returns-clause-versions : goal.returns-clause-versions
returns-clause-versions g c = c.reopen-closed.ensures.versions

pub returns-then-self-clause-met : goal.returns-then-self-clause-met
returns-then-self-clause-met g c = λ honest. inl (dead_so c.args.self.now c.if-self.true)

pub returns-clause-met : goal.returns-clause-met
returns-clause-met g c = λ honest.
    inr
    (told_met c.args.self.now
    (record c.args.self.now { layers = c.reopen-closed.new.self; failed = c.tell.new.failed })
    c.if-self.false c.tell.ensures (c.reopen-closed.ensures.met honest))
