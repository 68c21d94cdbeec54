-- Objects that were inserted so far, and one more.
use Rattle.layer_store.specs.Representation.{device_in}
use Rattle.layer_store.proofs.CallLemmas.{asked_by_change}
use Rattle.layer_import.proofs.CallLemmas.{all_inserted, inserted_more, insertion_refused}
use Rattle.layer_import.proofs.import.insert_each.Goals as goal

pub returns-in-Err : goal.returns-in-Err
returns-in-Err g c =
    insertion_refused c.args.store.now c.loop-object.store c.insert.new.self c.args.layer.now
    c.args.objects.now
    c.loop-object.object-index _ c.in-Err.refusal c.loop-object-test.true c.loop-object.invariant
    (asked_by_change
    (λ honest b left. g.met.D.BlockDevice.only_now (device_in c.loop-object.store) b honest left)
    (λ e. absurd (cc)) c.in-Err.ensures.changes)

pub loop-object-preserved : goal.loop-object-preserved
loop-object-preserved g c =
    inserted_more c.args.store.now c.loop-object.store c.insert.new.self c.args.layer.now c.args.objects.now
    c.loop-object.object-index _ c.loop-object-test.true c.loop-object.invariant
    (asked_by_change
    (λ honest b left. g.met.D.BlockDevice.only_now (device_in c.loop-object.store) b honest left)
    (λ e. absurd (cc)) c.in_default.ensures.changes)

pub returns : goal.returns
returns g c =
    all_inserted c.args.store.now c.loop-object.store c.args.layer.now c.args.objects.now
    c.loop-object.object-index c.loop-object-test.false c.loop-object.invariant
