-- What holds at each turn of the loop of `BBox::widened`.
use Rattle.std.proofs.Common.{pos, negsuc, ◌+ℤ◌, ◌-ℤ◌}
use Rattle.std.specs.Int.{int_min, int_max}
use Rattle.box_math.specs.Bounds.{on_axis}
use Rattle.box_math.proofs.Filling.{FilledTo}
use Rattle.box_math.proofs.bounds.BBox.widened.Given as goal

abbrev pub invariant-loop-axis : goal.invariant-loop-axis
invariant-loop-axis g l =
    let b = l.self-inside in
    FilledTo g.row.D (λ k. int_max (negsuc 2147483647) (on_axis b.low k -ℤ pos l.fn.by)) l.low l.axis
    × FilledTo g.row.D (λ k. int_min (pos 2147483647) (on_axis b.high k +ℤ pos l.fn.by)) l.high l.axis
