-- What holds at each turn of the loop over the axes.
use Rattle.std.proofs.Common.{◌≡◌, true}
use Rattle.box_math.specs.Bounds.{all_over}
use Rattle.box_math.proofs.MaskLemmas.{meets_on}
use Rattle.box_math.proofs.masks.meets_in.Given as goal

abbrev pub invariant-loop-axis : goal.invariant-loop-axis
invariant-loop-axis g l = all_over l.axis (meets_on l.low l.high l.window l.place) ≡ true
