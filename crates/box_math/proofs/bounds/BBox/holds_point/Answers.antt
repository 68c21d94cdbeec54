-- The goals of `BBox::holds_point` that are proved by hand.
use Rattle.std.proofs.Common.{sym, rules, arith, below_more}
use Rattle.std.proofs.lemmas.Int.{to_z-of_z}
use Rattle.box_math.specs.Bounds.{HoldsPoint}
use Rattle.box_math.proofs.TestLaws.{holds_test_true, test_fails}
use Rattle.box_math.proofs.bounds.BBox.holds_point.Goals as goal

pub loop-axis-preserved : goal.loop-axis-preserved
loop-axis-preserved g c =
    below_more _ _ c.loop-axis.invariant (search (rules, to_z-of_z, c.if-not-both_ascend.ensures))

pub returns-clause-test : goal.returns-clause-test
returns-clause-test g c =
    let holds : HoldsPoint g.row.D c.args.self.now c.args.point.now =
    rw (← c.self.view_is) (λ axis h. c.loop-axis.invariant axis (omega arith)) in
    sym ((holds_test_true g.row.D _ _).1 holds)

pub returns-then-not-both_ascend-clause-test : goal.returns-then-not-both_ascend-clause-test
returns-then-not-both_ascend-clause-test g c =
    let a = c.args.self.now in
    let b = c.args.point.now in
    let fails : HoldsPoint g.row.D a b → ⊥ = λ holds. let u = holds c.loop-axis.axis c.loop-axis-test.true in
    search (rules, to_z-of_z, c.if-not-both_ascend.ensures) in
    sym (test_fails _ (HoldsPoint g.row.D a b) (holds_test_true g.row.D a b) fails)
