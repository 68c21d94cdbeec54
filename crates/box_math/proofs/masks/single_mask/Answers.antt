-- The mask of the last places.
use Rattle.std.proofs.Common.{◌≡◌, ◌-◌, ℕ, Bool, cond, sym, ap, ap₂, ◌+◌, ◌*◌, ◌^◌, ◌<◌, ◌∙◌, arith, rules}
use Rattle.box_math.specs.Bounds.{meets_test}
use Rattle.box_math.specs.Masks.{box_in_columns, mask_from}
use Rattle.box_math.proofs.MaskLemmas.{bit_lt, mask_fits, no_mask, one_more}
use Rattle.box_math.proofs.masks.single_mask.Goals as goal

pub loop-place-init : goal.loop-place-init
loop-place-init g c =
    let t : ℕ
    → Bool =
    λ k. meets_test g.row.D (box_in_columns g.row.D c.args.low.now c.args.high.now k) c.args.window.now in
    let none : c.args.n - c.args.n ≡ 0 = omega arith in
    (c.requires.order, omega arith, sym (ap (mask_from t c.args.n) none ∙ no_mask t c.args.n))

pub loop-place-preserved : goal.loop-place-preserved
loop-place-preserved g c =
    let t : ℕ
    → Bool =
    λ k. meets_test g.row.D (box_in_columns g.row.D c.args.low.now c.args.high.now k) c.args.window.now in
    let place = c.loop-place.place in
    let bit : c.from.result ≡ cond (t (place - 1)) 1 0 = search (rules, c.meets_in.ensures) in (
      omega arith,
      omega (arith, c.loop-place.invariant.1),
      ap₂ (λ m b. 2 * m + b) c.loop-place.invariant.2 bit
          ∙ sym (one_more t (place - 1) place (c.args.n - (place - 1)) (c.args.n - place) (omega arith)
          (omega (arith, c.loop-place.invariant.1))),
    )

pub overflow_mul-mask : goal.overflow_mul-mask
overflow_mul-mask g c =
    let t : ℕ
    → Bool =
    λ k. meets_test g.row.D (box_in_columns g.row.D c.args.low.now c.args.high.now k) c.args.window.now in
    let small =
    mask_fits t c.loop-place.place (c.args.n - c.loop-place.place) (omega (arith, c.requires.few)) in
    record { fits = omega (arith, small, c.loop-place.invariant.2) }

pub overflow_add-mask : goal.overflow_add-mask
overflow_add-mask g c =
    let t : ℕ
    → Bool =
    λ k. meets_test g.row.D (box_in_columns g.row.D c.args.low.now c.args.high.now k) c.args.window.now in
    let small =
    mask_fits t c.loop-place.place (c.args.n - c.loop-place.place) (omega (arith, c.requires.few)) in
    let bit : cond (t (c.loop-place.place - 1)) 1 0 < 2 ^ 1 = bit_lt (t (c.loop-place.place - 1)) in
    let same : c.from.result ≡ cond (t (c.loop-place.place - 1)) 1 0 = search (rules, c.meets_in.ensures) in
    record { fits = omega (arith, small, bit, same, c.loop-place.invariant.2) }
