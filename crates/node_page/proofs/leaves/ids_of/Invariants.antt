-- What holds at each turn of the loop of `ids_of`.
use Rattle.std.proofs.Common.{◌≡◌, map, take}
use Rattle.tree_node.specs.declared.node.Entry.{Entry}
use Rattle.node_page.proofs.leaves.ids_of.Given as goal

-- the references of the entries so far are read
abbrev pub invariant-loop-entry : goal.invariant-loop-entry
invariant-loop-entry g l =
    l.ids.items ≡ map (λ (entry : Entry g.row.D). entry.reference) (take l.entry-index l.entry-items)
