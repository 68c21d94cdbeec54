-- A question of the layers is a question of the store.
use Rattle.layer_store.specs.Representation.{device_in}
use Rattle.layer_store.proofs.QuestionLemmas.{failed_asks, layers_ask}
use Rattle.layer_store.proofs.StoreLemmas.{is_alive, not_both}
use Rattle.layer_store.proofs.store.Store.join_rows.Goals as goal

pub returns-then-self-clause-asks : goal.returns-then-self-clause-asks
returns-then-self-clause-asks g c =
    failed_asks c.if-self.true
    (λ honest b left. g.met.D.BlockDevice.only_now (device_in c.args.self.now) b honest left)

pub returns-then-self-clause-told : goal.returns-then-self-clause-told
returns-then-self-clause-told g c =
    λ t alive. absurd (not_both _ c.if-self.true (is_alive c.args.self.now t alive).0)

pub returns-clause-asks : goal.returns-clause-asks
returns-clause-asks g c =
    layers_ask c.if-self.false
    (λ honest b left. g.met.D.BlockDevice.only_now (device_in c.args.self.now) b honest left)
    c.join_rows.ensures.keeps

pub returns-clause-told : goal.returns-clause-told
returns-clause-told g c = λ t alive. c.join_rows.ensures.told t (is_alive c.args.self.now t alive).1

pub returns-clause-looks : goal.returns-clause-looks
returns-clause-looks g c = λ t alive. c.join_rows.ensures.looks t (is_alive c.args.self.now t alive).1
