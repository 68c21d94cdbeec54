use Rattle.std.proofs.Common.{◌≡◌, take, length}
use Rattle.tree_node.specs.Positions.{pick}
use Rattle.tree_node.proofs.entries.picked.Given as goal

abbrev pub invariant-loop-i : goal.invariant-loop-i
invariant-loop-i g l = record {
  value : l.group.items ≡ pick l.entries (take l.i l.places);
  count : length l.group.items ≡ l.i;
}
