use Rattle.std.proofs.Common.{◌++◌, arith, length-append}
use Rattle.std.proofs.lemmas.Int.Digits.{digits_value_more}
use Rattle.box_import.proofs.between.first_digits.Goals as goal

pub loop-at-preserved : goal.loop-at-preserved
loop-at-preserved c =
    let long = length-append c.args.whole.now c.args.fraction.now in
    let more = digits_value_more 10 (c.args.whole.now ++ c.args.fraction.now) c.loop-at.at (omega arith) in
    omega (arith, more)
