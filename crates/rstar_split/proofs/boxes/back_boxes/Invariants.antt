use Rattle.std.proofs.Common.{◌≡◌, ◌-◌, length}
use Rattle.tree_node.specs.Nodes.{items_of}
use Rattle.rstar_split.specs.Cuts.{back_box, AreBacks}
use Rattle.rstar_split.proofs.boxes.back_boxes.Given as goal

abbrev pub invariant-loop-behind : goal.invariant-loop-behind
invariant-loop-behind g l = record {
  whole : length l.boxes ≡ 101;
  all : l.all ≡ back_box g.row.D (items_of l.entries) l.places (length l.places - l.behind);
  boxes : AreBacks g.row.D (items_of l.entries) l.places (length l.places - l.behind) (length l.places)
      l.boxes;
}
