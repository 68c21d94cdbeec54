-- The mask of all places.
use Rattle.std.proofs.Common.{◌≡◌, ◌-◌, ◌≤◌, ◌+◌, ◌*◌, ℕ, Bool, sym, ap, ap₂, ◌∙◌, arith}
use Rattle.box_math.specs.Bounds.{meets_test}
use Rattle.box_math.specs.Masks.{box_in_columns, has_bit, mask_from}
use Rattle.box_math.proofs.MaskLemmas.{bit_of_mask, eight_fit, eight_more, mask_fits}
use Rattle.box_math.proofs.masks.meet_mask.Goals as goal

pub overflow_mul-mask : goal.overflow_mul-mask
overflow_mul-mask g c =
    let t : ℕ
    → Bool =
    λ k. meets_test g.row.D (box_in_columns g.row.D c.args.low.now c.args.high.now k) c.args.window.now in
    let small = mask_fits t c.loop-at.at (c.args.n - c.loop-at.at) (omega (arith, c.requires)) in
    record { fits = omega (arith, small, c.loop-at.invariant.2) }

pub overflow_add-mask : goal.overflow_add-mask
overflow_add-mask g c =
    let t : ℕ
    → Bool =
    λ k. meets_test g.row.D (box_in_columns g.row.D c.args.low.now c.args.high.now k) c.args.window.now in
    let small = mask_fits t c.loop-at.at (c.args.n - c.loop-at.at) (omega (arith, c.requires)) in
    let byte = eight_fit t (c.loop-at.at - 8) in
    record { fits = omega (arith, small, byte, c.loop-at.invariant.2, c.from.ensures, c.block_mask.ensures) }

pub loop-at-preserved : goal.loop-at-preserved
loop-at-preserved g c =
    let t : ℕ
    → Bool =
    λ k. meets_test g.row.D (box_in_columns g.row.D c.args.low.now c.args.high.now k) c.args.window.now in
    let at = c.loop-at.at in
    let within : 8 ≤ at = omega (arith, c.loop-at.invariant.1) in
    let block : c.from.result ≡ mask_from t (at - 8) 8 = c.from.ensures ∙ c.block_mask.ensures in
    let again : at - 8 + 8 ≡ at = omega arith in
    let count : c.args.n - (at - 8) ≡ 8 + (c.args.n - at) = omega (arith, c.loop-at.invariant.0) in (
      omega (arith, c.loop-at.invariant.0),
      omega (arith, c.loop-at.invariant.1),
      ap₂ (λ m b. 256 * m + b) c.loop-at.invariant.2 block
          ∙ ap (λ p. 256 * mask_from t p (c.args.n - at) + mask_from t (at - 8) 8) (sym again)
          ∙ sym (eight_more t (at - 8) (c.args.n - at)) ∙ ap (mask_from t (at - 8)) (sym count),
    )

pub returns : goal.returns
returns g c k =
    let t : ℕ
    → Bool =
    λ j. meets_test g.row.D (box_in_columns g.row.D c.args.low.now c.args.high.now j) c.args.window.now in
    let none : c.loop-at.at ≡ 0 = omega arith in
    let whole : c.loop-at.mask ≡ mask_from t 0 c.args.n = c.loop-at.invariant.2
    ∙ ap (λ a. mask_from t a (c.args.n - a)) none
    ∙ ap (mask_from t 0) (let e : c.args.n - 0 ≡ c.args.n = omega arith in e) in
    ap (λ m. has_bit m k) whole ∙ bit_of_mask t c.args.n k
