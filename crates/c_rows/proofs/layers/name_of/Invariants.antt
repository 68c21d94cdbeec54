use Rattle.std.proofs.Common.{◌≡◌, take, drop}
use Rattle.c_rows.proofs.layers.name_of.Given as goal

abbrev pub invariant-loop-k : goal.invariant-loop-k
invariant-loop-k l = record {
  done : take l.k l.bytes ≡ take l.k l.name.items;
  left : drop l.k l.bytes ≡ drop l.k l.initial.bytes;
}
