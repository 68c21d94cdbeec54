-- The entries read so far.
use Rattle.std.proofs.Common.{◌≡◌, length, map, take}
use Rattle.tree_node.specs.Nodes.{item_of}
use Rattle.node_bytes.specs.Views.{content_in}
use Rattle.node_bytes.proofs.view.NodeView.decode_into.Given as goal

abbrev pub invariant-loop-place : goal.invariant-loop-place
invariant-loop-place g l = record {
  read : map item_of l.node.entries.items ≡ take l.place (content_in l.self).entries;
  many : length l.node.entries.items ≡ l.place;
  level : l.node.level ≡ l.self.level;
}
