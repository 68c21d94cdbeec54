-- The objects are copied or there is no memory for them, and the copy is loaded.
use Rattle.std.proofs.Common.{refl, subst}
use Rattle.std.specs.Prelude.{OnOk, true, false, ◌≡◌, map}
use Rattle.live_layers.specs.Keeping.{ChangesTree}
use Rattle.live_layers.specs.Rules.{HasFilled}
use Rattle.live_layers.specs.Staying.{KeepsPagesAndRecords}
use Rattle.live_layers.proofs.KeepLemmas.{nothing_moved}
use Rattle.plain_table.specs.Commands.Command.{Load}
use Rattle.plain_table.specs.Loads.{GivenObjects, given_object}
use Rattle.plain_table.specs.Step.{changes}
use Rattle.plain_table.specs.Table.{layer_at}
use Rattle.layer_store.specs.Commands.{Changes}
use Rattle.layer_store.specs.Representation.{device_in, layers_in}
use Rattle.layer_store.proofs.ChangeLemmas.{failed_changes, no_memory_changes}
use Rattle.layer_store.proofs.StoreLemmas.{is_alive, not_both}
use Rattle.layer_store.proofs.store.Store.load.Goals as goal

pub returns-then-self-clause-changes : goal.returns-then-self-clause-changes
returns-then-self-clause-changes g c = failed_changes c.if-self.true

pub returns-then-self-clause-same : goal.returns-then-self-clause-same
returns-then-self-clause-same g c =
    λ t alive unchanged. absurd (not_both _ c.if-self.true (is_alive c.args.self.now t alive).0)

pub returns-in-Ok-clause-changes : goal.returns-in-Ok-clause-changes
returns-in-Ok-clause-changes g c =
    subst (λ (os : GivenObjects). Changes c.args.self.now c.load_owned.new.self (Load c.args.layer.now os)
    c.load_owned.result) c.in-Ok.ensures.items c.load_owned.ensures.changes

pub returns-in-Ok-clause-tree : goal.returns-in-Ok-clause-tree
returns-in-Ok-clause-tree g c = λ t alive.
    subst (λ (os : GivenObjects). changes t (Load c.args.layer.now os) ≡ true →
    OnOk c.load_owned.result (ChangesTree (layers_in c.args.self.now) (layers_in c.load_owned.new.self)
    c.args.layer.now (HasFilled (layer_at t c.args.layer.now) (map given_object os))))
    c.in-Ok.ensures.items (c.load_owned.ensures.tree t alive)

pub returns-in-Ok-clause-same : goal.returns-in-Ok-clause-same
returns-in-Ok-clause-same g c = λ t alive.
    subst (λ (os : GivenObjects). changes t (Load c.args.layer.now os) ≡ false →
    KeepsPagesAndRecords (layers_in c.args.self.now) (layers_in c.load_owned.new.self))
    c.in-Ok.ensures.items (c.load_owned.ensures.same t alive)

pub returns-in-Err-clause-changes : goal.returns-in-Err-clause-changes
returns-in-Err-clause-changes g c =
    let d = g.met.D.BlockDevice in
    no_memory_changes c.args.self.now tt (λ t stops a. refl) (d.faults_fit (device_in c.args.self.now))
    (λ honest b left. d.only_now (device_in c.args.self.now) b honest left) d.only_now c.if-self.false

pub returns-in-Err-clause-same : goal.returns-in-Err-clause-same
returns-in-Err-clause-same g c = λ t alive unchanged. nothing_moved c.args.self.now.layers
