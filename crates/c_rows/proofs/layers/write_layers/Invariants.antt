use Rattle.std.proofs.Common.{◌≡◌, map, take, drop}
use Rattle.c_rows.specs.Layers.{layer_of}
use Rattle.c_rows.proofs.layers.write_layers.Given as goal

abbrev pub invariant-loop-k : goal.invariant-loop-k
invariant-loop-k l = record {
  done : take l.k l.out ≡ map layer_of (take l.k l.layers);
  left : drop l.k l.out ≡ drop l.k l.initial.out;
}
