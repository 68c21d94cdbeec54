-- The entries written so far, and nothing else.
use Rattle.std.proofs.Common.{map}
use Rattle.tree_node.specs.Nodes.{item_of}
use Rattle.node_bytes.proofs.Writing.{Written}
use Rattle.node_bytes.proofs.page.encode.Given as goal

abbrev pub invariant-loop-place : goal.invariant-loop-place
invariant-loop-place g l = Written g.row.D l.node.level (map item_of l.node.entries.items) l.place l.page
