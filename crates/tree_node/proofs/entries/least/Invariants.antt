use Rattle.std.proofs.Common.{◌≡◌, take, map}
use Rattle.tree_node.specs.Nodes.{item_of}
use Rattle.tree_node.specs.Boxes.{least_box}
use Rattle.tree_node.proofs.entries.least.Given as goal

-- the box so far is the least round the entries so far
abbrev pub invariant-loop-i : goal.invariant-loop-i
invariant-loop-i g l = l.all ≡ least_box g.row.D (take l.i (map item_of l.entries))
