use Rattle.std.proofs.Common.{◌≡◌}
use Rattle.tree_node.specs.Nodes.{items_of}
use Rattle.rstar_split.specs.Cuts.{front_box}
use Rattle.rstar_split.proofs.boxes.front_at.Given as goal

abbrev pub invariant-loop-k : goal.invariant-loop-k
invariant-loop-k g l = l.all ≡ front_box g.row.D (items_of l.entries) l.places l.k
