-- What holds at each turn of the loop of `BBox::overlap`.
use Rattle.std.proofs.Common.{◌≡◌, ◌^◌, ◌≤◌}
use Rattle.box_math.specs.Bounds.{Meets, meet_of}
use Rattle.box_math.specs.Measures.{product_over, side_of}
use Rattle.box_math.proofs.bounds.BBox.overlap.Given as goal

abbrev pub invariant-loop-axis : goal.invariant-loop-axis
invariant-loop-axis g l =
    (Meets l.axis l.self l.other)
    × (l.product ≡ product_over l.axis (side_of (meet_of g.row.D l.self l.other)))
    × (l.product ≤ 4294967295 ^ l.axis)
