use Rattle.std.proofs.Common.{◌≡◌, map, take, drop}
use Rattle.c_rows.specs.Rows.{id_of}
use Rattle.c_rows.proofs.rows.write_ids.Given as goal

abbrev pub invariant-loop-k : goal.invariant-loop-k
invariant-loop-k l = record {
  done : take l.k l.out ≡ map id_of (take l.k l.objects);
  left : drop l.k l.out ≡ drop l.k l.initial.out;
}
