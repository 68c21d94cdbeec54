use Rattle.std.proofs.Common.{◌≡◌, [], ◌∷◌, length}
use Rattle.tree_node.specs.Keys.{IsFirstLeast}
use Rattle.tree_node.specs.Nodes.{items_of}
use Rattle.rstar_split.specs.Cuts.{axis_margin}
use Rattle.rstar_split.specs.Sorts.{AreSorts}
use Rattle.rstar_split.proofs.groups.best_axis.Given as goal

abbrev pub invariant-loop-axis : goal.invariant-loop-axis
invariant-loop-axis g l = record {
  sorts : AreSorts (items_of l.entries) l.best l.lower l.upper;
  least : l.least ≡ axis_margin g.row.D (items_of l.entries) l.m l.best;
  lower : length l.lower ≡ length l.entries;
  upper : length l.upper ≡ length l.entries;
  next_lower : length l.next_lower ≡ length l.entries;
  next_upper : length l.next_upper ≡ length l.entries;
  first : IsFirstLeast l.axis (λ axis. axis_margin g.row.D (items_of l.entries) l.m axis ∷ []) l.best;
}
