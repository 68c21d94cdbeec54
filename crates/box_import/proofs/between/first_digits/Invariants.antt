use Rattle.std.proofs.Common.{◌≡◌, ◌^◌, ◌++◌, min, take}
use Rattle.std.specs.Str.Parse.{digits_value}
use Rattle.box_import.proofs.between.first_digits.Given as goal

abbrev pub invariant-loop-at : goal.invariant-loop-at
invariant-loop-at l = l.number ≡ min (digits_value 10 (take l.at (l.whole ++ l.fraction))) (2 ^ 32)
