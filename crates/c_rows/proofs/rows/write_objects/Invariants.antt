use Rattle.std.proofs.Common.{◌≡◌, map, take, drop}
use Rattle.c_rows.specs.Rows.{row_of}
use Rattle.c_rows.proofs.rows.write_objects.Given as goal

abbrev pub invariant-loop-k : goal.invariant-loop-k
invariant-loop-k l = record {
  done : take l.k l.out ≡ map row_of (take l.k l.objects);
  left : drop l.k l.out ≡ drop l.k l.initial.out;
}
