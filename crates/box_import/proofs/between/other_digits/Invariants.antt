use Rattle.std.proofs.Common.{◌+◌, ◌++◌, length}
use Rattle.box_import.proofs.BetweenLemmas.{HasRead}
use Rattle.box_import.proofs.between.other_digits.Given as goal

abbrev pub invariant-digits : goal.invariant-digits
invariant-digits l = HasRead (l.whole ++ l.fraction) (length l.whole + length l.fraction) l.from l.at l.scale
    l.size.low l.size.high

abbrev pub decreases-digits : goal.decreases-digits
decreases-digits l = l.at
