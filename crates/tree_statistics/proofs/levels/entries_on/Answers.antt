-- All are counted.
use Rattle.std.proofs.Common.{arith}
use Rattle.std.proofs.lemmas.List.{at_drop_all}
use Rattle.tree_statistics.specs.Levels.{entries_at}
use Rattle.tree_statistics.proofs.levels.entries_on.Goals as goal

pub returns : goal.returns
returns g c =
    let gone = at_drop_all (entries_at {D = g.row.D} c.args.level) c.args.rows.now c.loop-row.row-index
    (omega (arith, c.loop-row-test.false)) in
    omega (arith, c.loop-row.invariant.0, c.loop-row.invariant.1, gone)
