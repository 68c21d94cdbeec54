-- The mask of the last places, read in the eight places that end with them.
use Rattle.std.proofs.Common.{◌≡◌, ◌-◌, ◌+◌, ◌/◌, ◌^◌, ℕ, Bool, ap, ◌∙◌, arith}
use Rattle.box_math.specs.Bounds.{meets_test}
use Rattle.box_math.specs.Masks.{box_in_columns, mask_from}
use Rattle.box_math.proofs.MaskLemmas.{shifted_mask}
use Rattle.box_math.proofs.masks.last_mask.Goals as goal

pub returns : goal.returns
returns g c =
    let t : ℕ
    → Bool =
    λ k. meets_test g.row.D (box_in_columns g.row.D c.args.low.now c.args.high.now k) c.args.window.now in
    let n = c.args.n in
    let at = c.args.at in
    let before = at + 8 - n in
    let eight : 8 ≡ before + (n - at) = omega (arith, c.requires.order, c.requires.few) in
    let there : n - 8 + before ≡ at = omega (arith, c.requires.few, c.if-n-lt-LANES.false) in
    c.from.ensures ∙ ap (λ m. m / 2 ^ before) (c.block_mask.ensures ∙ ap (mask_from t (n - 8)) eight)
    ∙ shifted_mask t before (n - 8) (n - at) ∙ ap (λ p. mask_from t p (n - at)) there
