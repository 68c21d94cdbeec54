use Rattle.std.proofs.Common.{◌≡◌, ◌+◌, ◌*◌, ◌^◌, ◌≤◌}
use Rattle.tree_node.specs.Nodes.{items_of}
use Rattle.rstar_split.specs.Cuts.{front_box}
use Rattle.rstar_split.specs.Margins.{front_margins_of}
use Rattle.rstar_split.proofs.margins.front_margins.Given as goal

abbrev pub invariant-loop-k : goal.invariant-loop-k
invariant-loop-k g l = record {
  all : l.all ≡ front_box g.row.D (items_of l.entries) l.places (l.m + l.k);
  value : l.sum ≡ front_margins_of g.row.D (items_of l.entries) l.places l.m (l.k + 1);
  bound : l.sum ≤ (l.k + 1) * 2 ^ 34;
}
