use Rattle.std.proofs.Common.{◌++◌, sym, arith, length-append}
use Rattle.box_import.proofs.BetweenLemmas.{read_more}
use Rattle.box_import.proofs.between.other_digits.Goals as goal

pub digits-preserved : goal.digits-preserved
digits-preserved c = read_more (c.args.whole.now ++ c.args.fraction.now) _ _ _ _ _ _ _ _ _ _
    (sym (length-append c.args.whole.now c.args.fraction.now)) (omega arith) c.digits-test.true
    c.digits.invariant
    c.digit_at.ensures.value c.behind_digit-size.ensures.low c.behind_digit-size.ensures.high
    c.behind_digit-size.ensures.within c.behind_digit-size.ensures.ordered
