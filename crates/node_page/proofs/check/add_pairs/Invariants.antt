-- The objects appended so far.
use Rattle.std.proofs.Common.{◌≡◌, ◌++◌, map, take}
use Rattle.tree_node.specs.Nodes.{item_of}
use Rattle.node_page.specs.Checked.{pairs_of}
use Rattle.node_page.proofs.check.add_pairs.Given as goal

abbrev pub invariant-loop-entry : goal.invariant-loop-entry
invariant-loop-entry g l = l.pairs.items ≡ l.fn.pairs.items
    ++ pairs_of (map item_of (take l.entry-index l.entry-items))
