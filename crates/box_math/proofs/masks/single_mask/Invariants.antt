-- What holds at each turn of the loop over the places, from the last one down.
use Rattle.std.proofs.Common.{◌≡◌, ◌-◌, ◌≤◌}
use Rattle.box_math.specs.Bounds.{meets_test}
use Rattle.box_math.specs.Masks.{box_in_columns, mask_from}
use Rattle.box_math.proofs.masks.single_mask.Given as goal

abbrev pub invariant-loop-place : goal.invariant-loop-place
invariant-loop-place g l = (l.at ≤ l.place) × (l.place ≤ l.n)
    × (l.mask ≡ mask_from (λ k. meets_test g.row.D (box_in_columns g.row.D l.low l.high k) l.window) l.place
    (l.n - l.place))

abbrev pub decreases-loop-place : goal.decreases-loop-place
decreases-loop-place g l = l.place
