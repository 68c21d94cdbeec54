-- The sum ends at the next node above the level, or with all nodes.
use Rattle.std.proofs.Common.{arith}
use Rattle.std.proofs.lemmas.List.{at_drop_all}
use Rattle.std.proofs.lemmas.Bool.Decides.{nat_tests}
use Rattle.std.proofs.Common.{◌≡◌, true}
use Rattle.std.specs.Prelude.{nat_lt}
use Rattle.tree_statistics.specs.Levels.{overlap_after}
use Rattle.tree_statistics.proofs.SumLemmas.{none_after}
use Rattle.tree_statistics.proofs.levels.overlap_later.Goals as goal

pub returns-then-row-level : goal.returns-then-row-level
returns-then-row-level g c =
    let above : nat_lt c.args.level c.row-item.result.level ≡ true =
    grind (arith, nat_tests, c.if-row-level.true) in
    let gone = none_after g.row.D c.args.level c.args.bounds.now c.args.rows.now c.loop-row.row-index
    c.row-item.result (omega (arith, c.loop-row-test.true)) c.row-item.is above in
    omega (arith, c.loop-row.invariant.0, c.loop-row.invariant.1, gone)

pub returns : goal.returns
returns g c =
    let gone = at_drop_all (overlap_after {D = g.row.D} c.args.level c.args.bounds.now) c.args.rows.now
    c.loop-row.row-index (omega (arith, c.loop-row-test.false)) in
    omega (arith, c.loop-row.invariant.0, c.loop-row.invariant.1, gone)
