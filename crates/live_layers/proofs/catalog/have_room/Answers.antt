-- The goals of `have_room` that are proved by hand.
use Rattle.std.proofs.Common.{arith, sym}
use Rattle.live_layers.proofs.CatalogLemmas.{too_many}
use Rattle.live_layers.proofs.catalog.have_room.Goals as goal

pub returns-then-record-total : goal.returns-then-record-total
returns-then-record-total c =
    sym (too_many c.args.records.now c.loop-record.record-index c.loop-record.total c.record-item.result
    c.loop-record-test.true c.record-item.is c.loop-record.invariant.0 c.loop-record.invariant.1
    (omega (arith, c.if-record-total.true)))
