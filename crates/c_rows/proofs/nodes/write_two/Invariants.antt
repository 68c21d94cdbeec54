use Rattle.std.proofs.Common.{◌≡◌, map, take, drop}
use Rattle.c_rows.specs.Nodes.{node_of}
use Rattle.c_rows.proofs.nodes.write_two.Given as goal

abbrev pub invariant-loop-k : goal.invariant-loop-k
invariant-loop-k l = record {
  done : take l.k l.out ≡ map node_of (take l.k l.nodes);
  left : drop l.k l.out ≡ drop l.k l.initial.out;
}
