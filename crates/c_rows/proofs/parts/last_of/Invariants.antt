use Rattle.std.proofs.Common.{take}
use Rattle.c_rows.specs.Parts.{IsLast}
use Rattle.c_rows.proofs.parts.last_of.Given as goal

abbrev pub invariant-loop-k : goal.invariant-loop-k
invariant-loop-k l = record {
  done : IsLast l.most (take l.k l.objects) l.last;
}
