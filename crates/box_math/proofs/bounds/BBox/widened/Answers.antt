-- The goals of `BBox::widened` that are proved by hand.
use Rattle.std.proofs.Common.{arith}
use Rattle.std.proofs.lemmas.Int.{to_z-of_z}
use Rattle.box_math.proofs.Filling.{FilledTo-more, FilledTo-all}
use Rattle.box_math.proofs.bounds.BBox.widened.Goals as goal

pub loop-axis-preserved : goal.loop-axis-preserved
loop-axis-preserved g c =
    let i = c.loop-axis.invariant in (
      FilledTo-more _ _ _ _ _ c.loop-axis-test.true (grind (arith, to_z-of_z, c.lowered.ensures)) i.0,
      FilledTo-more _ _ _ _ _ c.loop-axis-test.true (grind (arith, to_z-of_z, c.raised.ensures)) i.1,
    )

pub returns-clause-value : goal.returns-clause-value
returns-clause-value g c =
    let i = c.loop-axis.invariant in
    let lows = FilledTo-all _ _ _ _ c.loop-axis-test.false i.0 in
    let highs = FilledTo-all _ _ _ _ c.loop-axis-test.false i.1 in
    rw (← c.self.view_is, lows, highs)
