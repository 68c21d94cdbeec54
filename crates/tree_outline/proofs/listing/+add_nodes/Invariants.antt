-- What holds at each turn of the loop of `add_nodes`, and how deep it goes.
use Rattle.tree_outline.proofs.WalkLemmas.{Progress}
use Rattle.tree_outline.proofs.listing.+add_nodes.Given as goal

-- each call below is for a lower level
abbrev pub decreases-add_nodes : goal.decreases-add_nodes
decreases-add_nodes g l = l.root.level

-- the node and those below the entries so far are listed
abbrev pub invariant-loop-entry : goal.invariant-loop-entry
invariant-loop-entry g l =
    Progress g.row.D l.fn.cache l.cache l.fn.root.page l.fn.root.level l.entry-items l.entry-index
    l.fn.rows.items l.rows.items
