-- The mask of all places.
use Rattle.std.proofs.Common.{◌≡◌, ◌-◌, ◌≤◌, ◌+◌, ◌*◌, ◌/◌, ◌%◌, ◌^◌, ℕ, Bool, bit_and, sym, ap, ap₂, ◌∙◌}
use Rattle.std.proofs.Common.{arith, pow_mono}
use Rattle.box_math.specs.Bounds.{meets_test}
use Rattle.box_math.specs.Masks.{has_bit, mask_from}
use Rattle.box_math.proofs.MaskLemmas.{bit_of_mask, eight_fit, eight_more, no_mask}
use Rattle.node_bytes.specs.Layout.{item_at}
use Rattle.node_bytes.proofs.MaskLemmas.{first_bits, mask_fits}
use Rattle.node_bytes.proofs.masks.mask_in.Goals as goal

pub loop-at-init : goal.loop-at-init
loop-at-init g c =
    let t : ℕ → Bool = λ k. meets_test g.row.D (item_at g.row.D c.args.page.now k).bounds c.args.window.now in
    let top = (c.args.count + 8 - 1) / 8 * 8 in
    let none : top - top ≡ 0 = omega arith in
    record {
      within = omega arith;
      whole = omega arith;
      mask = sym (ap (mask_from t top) none ∙ no_mask t top);
    }

pub overflow_mul-mask : goal.overflow_mul-mask
overflow_mul-mask g c =
    let t : ℕ → Bool = λ k. meets_test g.row.D (item_at g.row.D c.args.page.now k).bounds c.args.window.now in
    let top = (c.args.count + 8 - 1) / 8 * 8 in
    let small = mask_fits t c.loop-at.at (top - c.loop-at.at) (omega arith) in
    record { fits = omega (arith, small, c.loop-at.invariant.mask) }

pub overflow_add-mask : goal.overflow_add-mask
overflow_add-mask g c =
    let t : ℕ → Bool = λ k. meets_test g.row.D (item_at g.row.D c.args.page.now k).bounds c.args.window.now in
    let top = (c.args.count + 8 - 1) / 8 * 8 in
    let small = mask_fits t c.loop-at.at (top - c.loop-at.at) (omega arith) in
    let byte = eight_fit t (c.loop-at.at - 8) in
    record {
      fits =
          omega (arith, small, byte, c.loop-at.invariant.mask, c.from.ensures, c.block_mask.ensures);
    }

pub loop-at-preserved : goal.loop-at-preserved
loop-at-preserved g c =
    let t : ℕ → Bool = λ k. meets_test g.row.D (item_at g.row.D c.args.page.now k).bounds c.args.window.now in
    let at = c.loop-at.at in
    let top = (c.args.count + 8 - 1) / 8 * 8 in
    let within : 8 ≤ at = omega (arith, c.loop-at.invariant.whole) in
    let block : c.from.result ≡ mask_from t (at - 8) 8 = c.from.ensures ∙ c.block_mask.ensures in
    let again : at - 8 + 8 ≡ at = omega arith in
    let count : top - (at - 8) ≡ 8 + (top - at) = omega (arith, c.loop-at.invariant.within) in
    record {
      within = omega (arith, c.loop-at.invariant.within);
      whole = omega (arith, c.loop-at.invariant.whole);
      mask = ap₂ (λ m b. 256 * m + b) c.loop-at.invariant.mask block
          ∙ ap (λ p. 256 * mask_from t p (top - at) + mask_from t (at - 8) 8) (sym again)
          ∙ sym (eight_more t (at - 8) (top - at)) ∙ ap (mask_from t (at - 8)) (sym count);
    }

pub returns : goal.returns
returns g c =
    let t : ℕ → Bool = λ k. meets_test g.row.D (item_at g.row.D c.args.page.now k).bounds c.args.window.now in
    let top = (c.args.count + 8 - 1) / 8 * 8 in
    let none : c.loop-at.at ≡ 0 = omega arith in
    let whole : c.loop-at.mask ≡ mask_from t 0 top = c.loop-at.invariant.mask
    ∙ ap (λ a. mask_from t a (top - a)) none
    ∙ ap (mask_from t 0) (let e : top - 0 ≡ top = omega arith in e) in
    let power : 2 ^ c.args.count ≤ 2 ^ 104 = pow_mono {i = c.args.count} {j = 104} (omega arith) in
    let cut : 1 * 2 ^ c.args.count % 340282366920938463463374607431768211456 - 1 ≡ 2 ^ c.args.count - 1 =
    omega (arith, power) in
    λ k. ap (λ n. has_bit (bit_and c.loop-at.mask n) k) cut
    ∙ first_bits c.loop-at.mask top c.args.count k t (omega arith)
    (λ j. ap (λ m. has_bit m j) whole ∙ bit_of_mask t top j)
