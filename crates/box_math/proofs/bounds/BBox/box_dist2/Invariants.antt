-- What holds at each turn of the loop of `BBox::box_dist2`.
use Rattle.std.proofs.Common.{◌≡◌, ◌*◌, ◌^◌, ◌≤◌}
use Rattle.box_math.specs.Measures.{sum_over, square_of, gap_on}
use Rattle.box_math.proofs.bounds.BBox.box_dist2.Given as goal

abbrev pub invariant-loop-axis : goal.invariant-loop-axis
invariant-loop-axis g l = (l.sum ≡ sum_over l.axis (λ k. square_of (gap_on l.self l.other k)))
    × (l.sum ≤ l.axis * 2 ^ 64)
