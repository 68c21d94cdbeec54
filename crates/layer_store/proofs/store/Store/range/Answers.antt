-- A question of the layers is a question of the store.
use Rattle.std.proofs.Common.{refl}
use Rattle.layer_store.specs.Representation.{device_in}
use Rattle.layer_store.proofs.QuestionLemmas.{asked_answers, failed_answers}
use Rattle.layer_store.proofs.StoreLemmas.{is_alive}
use Rattle.layer_store.proofs.store.Store.range.Goals as goal

pub returns-then-self : goal.returns-then-self
returns-then-self g c = record {
  answers = failed_answers c.if-self.true
      (λ honest b left. g.met.D.BlockDevice.only_now (device_in c.args.self.now) b honest left) refl;
  looks = λ t alive. tt;
}

pub returns : goal.returns
returns g c =
    let d = g.met.D.BlockDevice in
    let asked = c.range.ensures in
    record {
      answers = asked_answers c.if-self.false
          (λ honest b left. d.only_now (device_in c.args.self.now) b honest left) (λ t. refl) (λ t stops. refl)
          tt (d.faults_fit (device_in c.args.self.now)) asked.answered asked.in_turn asked.keeps;
      looks = λ t alive. asked.looks t (is_alive c.args.self.now t alive).1;
    }
