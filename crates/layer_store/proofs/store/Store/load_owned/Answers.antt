-- A change of the layers is a change of the store.
use Rattle.std.proofs.Common.{refl}
use Rattle.layer_store.specs.Representation.{device_in}
use Rattle.layer_store.proofs.ChangeLemmas.{failed_changes, ok_any, on_told, told_changes}
use Rattle.layer_store.proofs.StoreLemmas.{is_alive, not_both}
use Rattle.layer_store.proofs.store.Store.load_owned.Goals as goal

pub returns-then-self-clause-changes : goal.returns-then-self-clause-changes
returns-then-self-clause-changes g c = failed_changes c.if-self.true

pub returns-clause-changes : goal.returns-clause-changes
returns-clause-changes g c =
    let d = g.met.D.BlockDevice in
    let made = c.load-made.ensures in
    told_changes _ _ c.if-self.false c.tell.ensures tt (λ t stops a. refl)
    (d.faults_fit (device_in c.args.self.now))
    (λ honest b left. d.only_now (device_in c.args.self.now) b honest left)
    made.change (λ t sound unchanged. (made.same t sound unchanged).written)
    (λ t sound unchanged. ok_any _ _ (made.same t sound unchanged))

pub returns-clause-tree : goal.returns-clause-tree
returns-clause-tree g c =
    λ t alive changed. on_told _ c.tell.ensures
    (c.load-made.ensures.tree t (is_alive c.args.self.now t alive).1 changed)

pub returns-then-self-clause-same : goal.returns-then-self-clause-same
returns-then-self-clause-same g c =
    λ t alive unchanged. absurd (not_both _ c.if-self.true (is_alive c.args.self.now t alive).0)

pub returns-clause-same : goal.returns-clause-same
returns-clause-same g c =
    λ t alive unchanged. c.load-made.ensures.same t (is_alive c.args.self.now t alive).1 unchanged
