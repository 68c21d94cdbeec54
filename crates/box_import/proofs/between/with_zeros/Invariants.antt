use Rattle.std.proofs.Common.{◌≡◌, ◌*◌, ◌^◌, min}
use Rattle.box_import.proofs.between.with_zeros.Given as goal

abbrev pub invariant-loop : goal.invariant-loop
invariant-loop l = l.all ≡ min (l.number * 10 ^ l.counter) (2 ^ 32)
