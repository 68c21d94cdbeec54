-- What holds at each turn of the loop over the blocks, from the last one down.
use Rattle.std.proofs.Common.{◌≡◌, ◌-◌, ◌≤◌, ◌%◌}
use Rattle.box_math.specs.Bounds.{meets_test}
use Rattle.box_math.specs.Masks.{mask_from}
use Rattle.node_bytes.specs.Layout.{item_at}
use Rattle.node_bytes.proofs.masks.mask_in.Given as goal

abbrev pub invariant-loop-at : goal.invariant-loop-at
invariant-loop-at g l = record {
  within : l.at ≤ l.initial.at;
  whole : l.at % 8 ≡ 0;
  mask : l.mask ≡ mask_from (λ k. meets_test g.row.D (item_at g.row.D l.page k).bounds l.window) l.at
      (l.initial.at - l.at);
}

abbrev pub decreases-loop-at : goal.decreases-loop-at
decreases-loop-at g l = l.at
