-- What holds at each turn of the loop of `add_pairs_below`, and how deep it goes.
use Rattle.box_math.specs.Measures.{near_test}
use Rattle.tree_node.specs.Nodes.{content_of}
use Rattle.spatial_join.proofs.RowsLemmas.{Progress}
use Rattle.spatial_join.proofs.rows.+add_pairs_below.Given as goal

-- each call below is for a lower level
abbrev pub decreases-add_pairs_below : goal.decreases-add_pairs_below
decreases-add_pairs_below g l = l.right.level

-- the pairs below the children so far are added
abbrev pub invariant-loop-child : goal.invariant-loop-child
invariant-loop-child g l =
    Progress g.row.D l.fn.reach.limit (near_test g.row.D l.fn.reach.limit l.fn.bounds) l.fn.cache l.cache
    (content_of l.fn.left.node.now) l.fn.right.level l.child-items l.child-index l.fn.pairs.items l.pairs.items
