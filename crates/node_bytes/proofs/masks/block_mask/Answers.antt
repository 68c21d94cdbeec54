-- The mask of a block.
use Rattle.std.proofs.Common.{◌≡◌, sym, ap, ap₂, ◌∙◌, bit_and, arith, rules}
use Rattle.std.proofs.lemmas.Int.{to_z-of_z}
use Rattle.box_math.specs.Bounds.{all_over}
use Rattle.box_math.specs.Masks.{mask_from}
use Rattle.box_math.proofs.MaskLemmas.{all_eight, next_axis, same_mask}
use Rattle.node_bytes.proofs.MaskLemmas.{meets_by_axes, meets_on}
use Rattle.node_bytes.proofs.masks.block_mask.Goals as goal

pub loop-axis-init : goal.loop-axis-init
loop-axis-init g c = sym (all_eight c.args.at)

pub loop-axis-preserved : goal.loop-axis-preserved
loop-axis-preserved g c =
    let t = meets_on c.args.page.now c.args.window.now in
    let now : c.loop-axis.mask ≡ mask_from (λ k. all_over c.loop-axis.axis (t k)) c.args.at 8 =
    c.loop-axis.invariant in
    let more : c.axis_mask-mask.result ≡ mask_from (λ k. t k c.loop-axis.axis) c.args.at 8 =
    search (rules, to_z-of_z, c.axis_mask-mask.ensures) in
    ap₂ bit_and now more ∙ next_axis t c.loop-axis.axis c.args.at 8

pub returns : goal.returns
returns g c =
    let t = meets_on c.args.page.now c.args.window.now in
    let end : c.loop-axis.axis ≡ g.row.D = omega arith in
    c.loop-axis.invariant ∙ ap (λ n. mask_from (λ k. all_over n (t k)) c.args.at 8) end
    ∙ same_mask _ _ (meets_by_axes g.row.D c.args.page.now c.args.window.now) c.args.at 8
