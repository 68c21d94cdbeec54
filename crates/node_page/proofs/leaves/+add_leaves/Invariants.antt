-- What holds at each turn of the loop of `add_leaves`, and how deep it goes.
use Rattle.node_page.specs.Lists.{lists_of}
use Rattle.node_page.proofs.LeafLemmas.{Progress}
use Rattle.node_page.proofs.leaves.+add_leaves.Given as goal

-- each call below is for a lower level
abbrev pub decreases-add_leaves : goal.decreases-add_leaves
decreases-add_leaves g l = l.root.level

-- the leaves below the entries so far are read
abbrev pub invariant-loop-entry : goal.invariant-loop-entry
invariant-loop-entry g l =
    Progress g.row.D l.fn.cache l.cache l.fn.root.level l.entry-items l.entry-index (lists_of l.fn.lists)
    (lists_of l.lists)
