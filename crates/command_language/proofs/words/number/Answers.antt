-- The goals of `number` that are proved by hand.
use Rattle.std.proofs.Common.{◌<◌, length, arith, refl, ◌∙◌}
use Rattle.std.proofs.lemmas.Bool.Decides.{nat_tests}
use Rattle.command_language.proofs.NumberLemmas.{too_large, all_read}
use Rattle.command_language.proofs.words.number.Goals as goal

pub returns-in_err-value : goal.returns-in_err-value
returns-in_err-value c = c.from_residual-in_err-value.ensures
    ∙ too_large c.args.word.now c.loop-byte.byte-index c.loop-byte.value _ (omega arith) refl
    c.loop-byte.invariant (omega (arith, c.in_ok-digit.ensures.1, c.in_err-value.ensures))

pub returns : goal.returns
returns c =
    let some : 0 < length c.args.word.now = grind (arith, nat_tests) in
    all_read c.args.word.now c.loop-byte.byte-index c.loop-byte.value some (omega arith) c.loop-byte.invariant
