-- A live store closes its layers, and one that failed hands the device back.
use Rattle.std.proofs.Common.{◌≡◌, ◌∙◌, ◌∷◌, Ok, ap, inl, inr, sym, subst}
use Rattle.block_device.specs.Device.{LeavesOnly, Only}
use Rattle.live_layers.specs.Image.{IsImage, IsRefusedOrImageOf}
use Rattle.live_layers.specs.Staying.{LeavesTreesIn}
use Rattle.live_layers.proofs.StopLemmas.{shut_is_durable}
use Rattle.page_file.specs.Layout.{opened_version}
use Rattle.store_law.specs.Stops.{tables_left}
use Rattle.layer_store.specs.Faults.{IsMemoryOrDevice}
use Rattle.layer_store.specs.Representation.{device_in, file_version}
use Rattle.layer_store.specs.Commands.{IsUnfinished}
use Rattle.layer_store.proofs.ClosingLemmas.{memory_or_device, not_finished, rests_of_store}
use Rattle.layer_store.proofs.StoreLemmas.{alive_in, dead_so, failed_so, is_alive, is_dead, is_settled}
use Rattle.layer_store.proofs.StoreLemmas.{not_both}
use Rattle.layer_store.proofs.store.Store.close.Goals as goal

pub returns-then-failed-clause-refused : goal.returns-then-failed-clause-refused
returns-then-failed-clause-refused g c =
    λ t alive. absurd (not_both _ c.if-failed.true (is_alive c.args.self t alive).0)

pub returns-then-failed-clause-refused_stops : goal.returns-then-failed-clause-refused_stops
returns-then-failed-clause-refused_stops g c =
    λ s t represents alive. absurd (not_both _ c.if-failed.true (alive_in c.args.self s t represents alive).0)

pub returns-then-failed-clause-quiet : goal.returns-then-failed-clause-quiet
returns-then-failed-clause-quiet g c = λ settled. inl (dead_so c.args.self c.if-failed.true)

pub returns-then-failed-clause-unfinished : goal.returns-then-failed-clause-unfinished
returns-then-failed-clause-unfinished g c =
    λ t alive. absurd (not_both _ c.if-failed.true (is_alive c.args.self t alive).0)

pub returns-in-Ok-clause-closed : goal.returns-in-Ok-clause-closed
returns-in-Ok-clause-closed g c = λ t alive.
    let d = g.D.BlockDevice in
    subst (λ (device : g.row.D.Denot). IsImage (d.shown device) t) (sym c.abandon-device.ensures)
    (c.in-Ok.ensures.closed t (is_alive c.args.self t alive).1)

pub returns-in-Ok-clause-trees : goal.returns-in-Ok-clause-trees
returns-in-Ok-clause-trees g c = λ t alive.
    let d = g.D.BlockDevice in
    subst (λ (device : g.row.D.Denot). LeavesTreesIn c.args.self.layers (d.shown device))
    (sym c.abandon-device.ensures) (c.in-Ok.ensures.left t (is_alive c.args.self t alive).1)

pub returns-in-Ok-clause-version : goal.returns-in-Ok-clause-version
returns-in-Ok-clause-version g c = λ honest.
    let d = g.D.BlockDevice in
    subst (λ (device : g.row.D.Denot). opened_version (d.shown device) ≡ file_version c.args.self)
    (sym c.abandon-device.ensures) (c.in-Ok.ensures.has_version honest)

pub returns-in-Ok-clause-stops : goal.returns-in-Ok-clause-stops
returns-in-Ok-clause-stops g c = λ s t represents alive.
    let d = g.D.BlockDevice in
    subst (λ (device : g.row.D.Denot). LeavesOnly d.moment d.left_since d.recovery (device_in c.args.self)
    device (IsRefusedOrImageOf (t ∷ tables_left s.stops.now))) (sym c.abandon-device.ensures)
    (c.in-Ok.ensures.stops (tables_left s.stops.now) t (alive_in c.args.self s t represents alive).1
    (rests_of_store c.args.self s represents))

pub returns-in-Ok-clause-durable : goal.returns-in-Ok-clause-durable
returns-in-Ok-clause-durable g c = λ t alive.
    let d = g.D.BlockDevice in
    subst (λ (device : g.row.D.Denot). Only (d.shown device) (d.may_leave device))
    (sym c.abandon-device.ensures)
    (shut_is_durable c.settle-settled.new.self.cache
    (c.in-Ok.ensures.sound t (is_alive c.args.self t alive).1).map.honest c.in-Ok.ensures.shut)

pub returns-in-Ok-clause-dead : goal.returns-in-Ok-clause-dead
returns-in-Ok-clause-dead g c = λ dead. absurd (not_both _ (is_dead c.args.self dead) c.if-failed.false)

pub returns-in-Ok-clause-failed : goal.returns-in-Ok-clause-failed
returns-in-Ok-clause-failed g c =
    λ failed. absurd (not_both _ (failed_so c.args.self failed) c.if-failed.false)

pub returns-in-Ok-clause-quiet : goal.returns-in-Ok-clause-quiet
returns-in-Ok-clause-quiet g c =
    λ settled. inr
    (ap Ok (c.abandon-device.ensures
    ∙ (c.in-Ok.ensures.was_settled (is_settled c.args.self settled)).0.device))

pub returns-in-Err-clause-refused_stops : goal.returns-in-Err-clause-refused_stops
returns-in-Err-clause-refused_stops g c = λ s t represents alive.
    let d = g.D.BlockDevice in
    subst (λ (device : g.row.D.Denot). LeavesOnly d.moment d.left_since d.recovery (device_in c.args.self)
    device (IsRefusedOrImageOf (t ∷ tables_left s.stops.now))) (sym c.abandon-device.ensures)
    (c.in-Err.ensures.stops (tables_left s.stops.now) t (alive_in c.args.self s t represents alive).1
    (rests_of_store c.args.self s represents))

pub returns-in-Err-clause-refused : goal.returns-in-Err-clause-refused
returns-in-Err-clause-refused g c = λ t alive.
    subst IsMemoryOrDevice (sym c.as_refusal.ensures)
    (memory_or_device c.in-Err.fault (c.in-Err.ensures.faults t (is_alive c.args.self t alive).1))

pub returns-in-Err-clause-unfinished : goal.returns-in-Err-clause-unfinished
returns-in-Err-clause-unfinished g c = λ t alive.
    let d = g.D.BlockDevice in
    let settled = c.in-Err.ensures in
    subst (λ r. IsUnfinished c.args.self r c.abandon-device.result) (sym c.as_refusal.ensures)
    (not_finished c.args.self c.settle-settled.new.self c.in-Err.fault c.abandon-device.result t
    c.if-failed.false (record {
      sound = settled.sound;
      stops = settled.stops;
      rests = settled.rests;
      trees = settled.trees;
      versions = settled.versions;
      faults = settled.faults;
      counted = settled.cause.refused;
      unsettled = λ was. let no = (settled.was_settled was).1 in cc;
      unshut = settled.refused;
    }) c.abandon-device.ensures (g.met.D.BlockDevice.faults_fit (device_in c.args.self))
    (λ honest k only takes. g.met.D.BlockDevice.committed _ k honest only takes)
    (is_alive c.args.self t alive).1)

pub returns-in-Err-clause-dead : goal.returns-in-Err-clause-dead
returns-in-Err-clause-dead g c = λ dead. absurd (not_both _ (is_dead c.args.self dead) c.if-failed.false)

pub returns-in-Err-clause-failed : goal.returns-in-Err-clause-failed
returns-in-Err-clause-failed g c =
    λ failed. absurd (not_both _ (failed_so c.args.self failed) c.if-failed.false)

pub returns-in-Err-clause-quiet : goal.returns-in-Err-clause-quiet
returns-in-Err-clause-quiet g c =
    λ settled. absurd (let no = (c.in-Err.ensures.was_settled (is_settled c.args.self settled)).1 in cc)
