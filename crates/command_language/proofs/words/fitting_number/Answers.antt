-- The goals of `fitting_number` that are proved by hand.
use Rattle.std.proofs.Common.{◌<◌, get_or, arith}
use Rattle.command_language.proofs.NumberLemmas.{digit_at_most_nine, one_more_fits}
use Rattle.command_language.proofs.words.fitting_number.Goals as goal

pub overflow_mul-value : goal.overflow_mul-value
overflow_mul-value c =
    let i = c.loop-byte.byte-index in
    let few : i < 19 = omega (arith, c.loop-byte-test.true, c.requires.short) in
    let h = one_more_fits i c.loop-byte.value 0 few c.loop-byte.invariant.below (omega arith) in
    omega (arith, h)

pub overflow_add-value : goal.overflow_add-value
overflow_add-value c =
    let i = c.loop-byte.byte-index in
    let few : i < 19 = omega (arith, c.loop-byte-test.true, c.requires.short) in
    let nine = digit_at_most_nine (get_or c.args.word.now i 0) c.in_ok-value.ensures.0 in
    let h = one_more_fits i c.loop-byte.value c.in_ok-value.field-0 few c.loop-byte.invariant.below
    (omega (arith, nine, c.in_ok-value.ensures.1)) in
    omega (arith, h)
