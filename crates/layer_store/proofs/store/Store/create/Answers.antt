-- A change of the layers is a change of the store.
use Rattle.std.proofs.Common.{refl}
use Rattle.layer_store.specs.Representation.{device_in}
use Rattle.layer_store.proofs.ChangeLemmas.{failed_changes, on_told, refused_same, refused_written}
use Rattle.layer_store.proofs.ChangeLemmas.{told_changes}
use Rattle.layer_store.proofs.StoreLemmas.{is_alive}
use Rattle.layer_store.proofs.store.Store.create.Goals as goal

pub returns-then-self-clause-changes : goal.returns-then-self-clause-changes
returns-then-self-clause-changes g c = failed_changes c.if-self.true

pub returns-clause-changes : goal.returns-clause-changes
returns-clause-changes g c =
    let d = g.met.D.BlockDevice in
    let made = c.create-made.ensures in
    told_changes _ _ c.if-self.false c.tell.ensures tt (λ t stops a. refl)
    (d.faults_fit (device_in c.args.self.now))
    (λ honest b left. d.only_now (device_in c.args.self.now) b honest left)
    made.change (refused_written made.change (λ t. (refl, refl)))
    (refused_same made.change (λ t. (refl, refl)))

pub returns-clause-tree : goal.returns-clause-tree
returns-clause-tree g c =
    λ t alive. on_told _ c.tell.ensures (c.create-made.ensures.tree t (is_alive c.args.self.now t alive).1)

pub returns-clause-version : goal.returns-clause-version
returns-clause-version g c =
    λ t alive. on_told _ c.tell.ensures
    (c.create-made.ensures.version t (is_alive c.args.self.now t alive).1)
