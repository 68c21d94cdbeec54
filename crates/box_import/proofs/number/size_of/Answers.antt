use Rattle.box_import.proofs.DigitLemmas.{all_digits-append}
use Rattle.box_import.proofs.number.size_of.Goals as goal

pub lowered-requires-clause-digits : goal.lowered-requires-clause-digits
lowered-requires-clause-digits c =
    all_digits-append _ _ c.whole-whole.ensures.digits c.fraction-fraction.ensures.digits

pub raised-requires-clause-digits : goal.raised-requires-clause-digits
raised-requires-clause-digits c =
    all_digits-append _ _ c.whole-whole.ensures.digits c.fraction-fraction.ensures.digits
