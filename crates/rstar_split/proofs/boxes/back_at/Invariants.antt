use Rattle.std.proofs.Common.{◌≡◌, ◌-◌, length}
use Rattle.tree_node.specs.Nodes.{items_of}
use Rattle.rstar_split.specs.Cuts.{back_box}
use Rattle.rstar_split.proofs.boxes.back_at.Given as goal

abbrev pub invariant-loop-behind : goal.invariant-loop-behind
invariant-loop-behind g l = l.all ≡ back_box g.row.D (items_of l.entries) l.places (length l.places - l.behind)
