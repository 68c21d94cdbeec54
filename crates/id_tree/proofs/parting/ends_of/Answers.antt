-- The ends are around each object that was looked at.
use Rattle.std.proofs.Common.{arith}
use Rattle.id_page.proofs.LeafReading.{count_of_leaf, id_of_leaf}
use Rattle.id_tree.proofs.parting.ends_of.Goals as goal

pub returns : goal.returns
returns g c = λ objects is k other lt.
    let count = count_of_leaf g.row.D c.args.page.now objects is in
    let read = id_of_leaf g.row.D c.args.page.now objects k other is lt in
    let between = c.loop-place.invariant k (omega (arith, lt, count)) in
    (omega (arith, read, between.0), omega (arith, read, between.1))
