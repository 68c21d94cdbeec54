-- What holds at each turn of the loop of `box_around`.
use Rattle.std.proofs.Common.{ℕ, ◌<◌, FitsSigned, w32}
use Rattle.box_math.specs.Bounds.{on_axis}
use Rattle.box_math.proofs.Filling.{FilledTo}
use Rattle.nearest.proofs.ReachLemmas.{above_by, below_by}
use Rattle.nearest.proofs.reach.box_around.Given as goal

-- both corners are written on the axes so far, and what was read of the point fits
abbrev pub invariant-loop-axis : goal.invariant-loop-axis
invariant-loop-axis g l = record {
  lows : FilledTo g.row.D (below_by l.point l.side) l.low l.axis;
  highs : FilledTo g.row.D (above_by l.point l.side) l.high l.axis;
  fits : (k : ℕ) → k < l.axis → FitsSigned w32 (on_axis l.point k);
}
