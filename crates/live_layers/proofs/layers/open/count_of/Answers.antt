-- The sum fits, since that of all records does.
use Rattle.std.proofs.Common.{arith}
use Rattle.live_layers.proofs.CatalogLemmas.{within_all}
use Rattle.live_layers.proofs.layers.open.count_of.Goals as goal

pub overflow_add-total : goal.overflow_add-total
overflow_add-total c = let all =
    within_all c.args.records.now c.loop-record.record-index c.loop-record.total c.record-item.result
    c.loop-record-test.true c.record-item.is c.loop-record.invariant in omega (arith, all, c.requires)
