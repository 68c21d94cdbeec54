use Rattle.std.proofs.Common.{◌++◌, length, length-append}
use Rattle.box_import.proofs.NearLemmas.{raised_near}
use Rattle.box_import.proofs.number.raised.Goals as goal

pub returns-clause-value : goal.returns-clause-value
returns-clause-value c = raised_near (c.args.whole.now ++ c.args.fraction.now) (length c.args.whole.now)
    (length c.args.fraction.now) c.args.power c.min-moved.result c.args.scale _ _ _ _ _ _
    (length-append c.args.whole.now c.args.fraction.now) c.requires.positive c.min-moved.ensures
    c.other_digits.ensures.value c.first_digits.ensures c.with_zeros-number.ensures
    c.above.ensures.low c.above.ensures.high
