-- A question of the layers is a question of the store.
use Rattle.std.proofs.Common.{false, refl, inl, inr}
use Rattle.live_layers.specs.Refusals.{refusals_in}
use Rattle.live_layers.proofs.RefusalLemmas.{fault_of_none, of_none}
use Rattle.live_layers.proofs.Results.{if_err, on_ok}
use Rattle.plain_table.specs.Commands.Command.{Check}
use Rattle.layer_store.specs.Representation.{device_in}
use Rattle.layer_store.specs.declared.store.Store.{Store}
use Rattle.layer_store.proofs.QuestionLemmas.{asked_answers, failed_answers, keeps_asked}
use Rattle.layer_store.proofs.StartLemmas.{settled_begins}
use Rattle.layer_store.proofs.StoreLemmas.{alive_so, dead_so, is_settled}
use Rattle.layer_store.proofs.store.Store.check.Goals as goal

pub returns-then-self-clause-answers : goal.returns-then-self-clause-answers
returns-then-self-clause-answers g c =
    failed_answers c.if-self.true
    (λ honest b left. g.met.D.BlockDevice.only_now (device_in c.args.self.now) b honest left) refl

pub returns-clause-answers : goal.returns-clause-answers
returns-clause-answers g c =
    let d = g.met.D.BlockDevice in
    let asked = c.check.ensures in
    asked_answers c.if-self.false (λ honest b left. d.only_now (device_in c.args.self.now) b honest left)
    (λ t. refl) (λ t stops. refl) tt (d.faults_fit (device_in c.args.self.now))
    asked.answered
    (of_none (refusals_in c.args.self.now.layers Check) c.check.result (false, refl)
    (if_err c.check.result (λ r of_fault. fault_of_none of_fault.0 r of_fault.1) asked.refused))
    asked.keeps

pub returns-clause-sound : goal.returns-clause-sound
returns-clause-sound g c = λ honest.
    on_ok c.check.result
    (λ found. (
      found.0,
      alive_so (record c.args.self.now { layers = c.check.new.self }) found.0 c.if-self.false found.1,
    ))
    (c.check.ensures.sound honest)

pub returns-clause-begins : goal.returns-clause-begins
returns-clause-begins g c = λ honest settled.
    let new : Store _ _ _ = record c.args.self.now { layers = c.check.new.self } in
    let kept = keeps_asked c.args.self.now c.check.new.self c.check.ensures.keeps in
    on_ok c.check.result (λ found. (
      found.0,
      settled_begins new found.0 (λ honest b left. g.met.D.BlockDevice.only_now (device_in new) b honest left)
          (λ honest k only takes. g.met.D.BlockDevice.committed (device_in new) k honest only takes)
          (λ honest b found. g.met.D.BlockDevice.brought_now (device_in new) b honest found)
          (kept.settled settled) c.if-self.false found.1,
    )) (c.check.ensures.sound honest)

pub returns-then-self-clause-refused : goal.returns-then-self-clause-refused
returns-then-self-clause-refused g c = inl (dead_so c.args.self.now c.if-self.true)

pub returns-clause-refused : goal.returns-clause-refused
returns-clause-refused g c = inr c.check.ensures.refused

pub returns-clause-spelled : goal.returns-clause-spelled
returns-clause-spelled g c = λ honest settled.
    let kept = keeps_asked c.args.self.now c.check.new.self c.check.ensures.keeps in
    on_ok c.check.result
    (λ found. found.1.catalog
    (is_settled (record c.args.self.now { layers = c.check.new.self }) (kept.settled settled)).1)
    (c.check.ensures.sound honest)
