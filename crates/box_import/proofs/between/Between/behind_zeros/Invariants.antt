use Rattle.box_import.proofs.BetweenLemmas.{HasShrunk}
use Rattle.box_import.proofs.between.Between.behind_zeros.Given as goal

abbrev pub invariant-loop : goal.invariant-loop
invariant-loop l = HasShrunk l.fn.self.low l.fn.self.high l.counter l.scale l.size.low l.size.high
