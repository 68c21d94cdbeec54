-- A listing of the layers is an answer of the store.
use Rattle.std.proofs.Common.{Ok, false, refl}
use Rattle.layer_store.specs.Representation.{device_in}
use Rattle.layer_store.proofs.QuestionLemmas.{failed_answers, reply_answers}
use Rattle.layer_store.proofs.store.Store.layers.Goals as goal

pub returns-then-self-clause-answers : goal.returns-then-self-clause-answers
returns-then-self-clause-answers g c =
    failed_answers c.if-self.true
    (λ honest b left. g.met.D.BlockDevice.only_now (device_in c.args.self.now) b honest left) refl

pub returns-else-self-clause-answers : goal.returns-else-self-clause-answers
returns-else-self-clause-answers g c =
    reply_answers (Ok c.layers.result) c.if-self.false
    (λ honest b left. g.met.D.BlockDevice.only_now (device_in c.args.self.now) b honest left) (λ t. refl)
    (λ t stops. refl) c.layers.ensures.answered tt (false, refl)
