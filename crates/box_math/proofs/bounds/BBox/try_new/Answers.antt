-- The goals of `BBox::try_new` that are proved by hand.
use Rattle.std.proofs.Common.{sym, rules, arith}
use Rattle.std.proofs.lemmas.Int.{to_z-of_z}
use Rattle.box_math.specs.Bounds.{IsOrdered}
use Rattle.box_math.proofs.TestLaws.{ordered_test_true, test_fails}
use Rattle.box_math.proofs.bounds.BBox.try_new.Goals as goal

pub returns-then-high-axis-clause-test : goal.returns-then-high-axis-clause-test
returns-then-high-axis-clause-test g c =
    let low = c.args.low in
    let high = c.args.high in
    let fails : IsOrdered g.row.D low high → ⊥ = λ holds. let u = holds c.loop-axis.axis (omega arith) in
    search (rules, to_z-of_z) in
    sym (test_fails _ (IsOrdered g.row.D low high) (ordered_test_true g.row.D low high) fails)

pub returns-clause-test : goal.returns-clause-test
returns-clause-test g c =
    sym ((ordered_test_true g.row.D _ _).1 (λ axis h. (c.loop-axis.invariant axis (omega arith)).ordered))
