use Rattle.std.proofs.Common.{◌≡◌, ◌+◌, ◌-◌, ◌*◌, ◌^◌, ◌≤◌, length}
use Rattle.tree_node.specs.Nodes.{items_of}
use Rattle.rstar_split.specs.Cuts.{back_box, cuts_of}
use Rattle.rstar_split.specs.Margins.{back_margins_of}
use Rattle.rstar_split.proofs.margins.back_margins.Given as goal

abbrev pub invariant-loop-k : goal.invariant-loop-k
invariant-loop-k g l = record {
  all : l.all ≡ back_box g.row.D (items_of l.entries) l.places (length l.places - l.m - l.k);
  value : l.sum + back_margins_of g.row.D (items_of l.entries) l.places l.m
      (length l.places - 2 * l.m - l.k)
      ≡ back_margins_of g.row.D (items_of l.entries) l.places l.m (cuts_of (length l.places) l.m);
  bound : l.sum ≤ (l.k + 1) * 2 ^ 34;
}
