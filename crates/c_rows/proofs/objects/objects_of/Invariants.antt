use Rattle.std.proofs.Common.{◌≡◌, map, take}
use Rattle.c_rows.specs.Rows.{object_in}
use Rattle.c_rows.proofs.objects.objects_of.Given as goal

abbrev pub invariant-loop-k : goal.invariant-loop-k
invariant-loop-k g l = record {
  done : l.objects.items ≡ map (object_in l.axes) (take l.k l.rows);
}
