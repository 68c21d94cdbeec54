use Rattle.std.proofs.Common.{◌++◌, length, length-append}
use Rattle.box_import.proofs.NearLemmas.{lowered_near}
use Rattle.box_import.proofs.number.lowered.Goals as goal

pub returns-clause-value : goal.returns-clause-value
returns-clause-value c = lowered_near (c.args.whole.now ++ c.args.fraction.now) (length c.args.whole.now)
    (length c.args.fraction.now) c.args.power c.args.scale _ _ _ _ _ _ _
    (length-append c.args.whole.now c.args.fraction.now) c.requires.positive
    c.saturating_sub-from.ensures c.saturating_sub-zeros.ensures
    (c.behind_zeros-part.ensures.value _ _ c.other_digits.ensures.value)
    c.first_digits.ensures c.above.ensures.low c.above.ensures.high
