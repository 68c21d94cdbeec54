-- What holds at each turn of the loop over the blocks, from the last one down.
use Rattle.std.proofs.Common.{◌≡◌, ◌-◌, ◌≤◌, ◌%◌}
use Rattle.box_math.specs.Bounds.{meets_test}
use Rattle.box_math.specs.Masks.{box_in_columns, mask_from}
use Rattle.box_math.proofs.masks.meet_mask.Given as goal

abbrev pub invariant-loop-at : goal.invariant-loop-at
invariant-loop-at g l = (l.at ≤ l.n) × (l.at % 8 ≡ 0)
    × (l.mask ≡ mask_from (λ k. meets_test g.row.D (box_in_columns g.row.D l.low l.high k) l.window) l.at
    (l.n - l.at))

abbrev pub decreases-loop-at : goal.decreases-loop-at
decreases-loop-at g l = l.at
