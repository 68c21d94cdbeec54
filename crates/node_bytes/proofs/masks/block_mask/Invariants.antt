-- What holds at each turn of the loop over the axes.
use Rattle.std.proofs.Common.{◌≡◌}
use Rattle.box_math.specs.Bounds.{all_over}
use Rattle.box_math.specs.Masks.{mask_from}
use Rattle.node_bytes.proofs.MaskLemmas.{meets_on}
use Rattle.node_bytes.proofs.masks.block_mask.Given as goal

abbrev pub invariant-loop-axis : goal.invariant-loop-axis
invariant-loop-axis g l = l.mask ≡ mask_from (λ k. all_over l.axis (meets_on l.page l.window k)) l.at 8
