use Rattle.std.proofs.Common.{◌≡◌, ◌-◌, length}
use Rattle.tree_node.specs.Nodes.{items_of}
use Rattle.rstar_split.specs.Cuts.{front_box, numbers_of, IsLeastCut}
use Rattle.rstar_split.proofs.cuts.best_cut.Given as goal

abbrev pub invariant-loop-size : goal.invariant-loop-size
invariant-loop-size g l = record {
  bound : l.best.bound ≡ l.bound;
  front : l.front ≡ front_box g.row.D (items_of l.entries) l.places (l.size - 1);
  least : IsLeastCut g.row.D (items_of l.entries) l.places (length l.places) l.m l.bound l.size l.best.size
      (numbers_of l.best);
}
