-- What holds at each turn of the loops of the descent, and how deep it goes.
use Rattle.std.proofs.Common.{◌+◌, ◌-◌, ◌*◌, ◌≤◌, length}
use Rattle.tree_node.specs.Nodes.{content_of, item_of}
use Rattle.spatial_join.specs.Opening.{sole}
use Rattle.spatial_join.proofs.DescentLemmas.{Progress, left_beside, left_from, nodes_beside, nodes_from}
use Rattle.spatial_join.proofs.pairs.+descent.Given as goal

-- of the two nodes at least one is on a lower level at each call below, and an entry is taken of them first
abbrev pub decreases-add_pairs : goal.decreases-add_pairs
decreases-add_pairs g l = 2 * (l.left.now.level + l.right.now.level) + 1

abbrev pub decreases-add_pairs_of_entry : goal.decreases-add_pairs_of_entry
decreases-add_pairs_of_entry g l = 2 * (l.level + l.right.now.node.now.level)

-- the pairs below the entries so far are added
abbrev pub invariant-add_pairs-loop-entry : goal.invariant-add_pairs-loop-entry
invariant-add_pairs-loop-entry g l =
    Progress g.row.D l.fn.reach.limit l.fn.cache l.cache (content_of l.fn.left) (content_of l.fn.right)
    (left_from g.row.D l.fn.reach.limit l.entry-index) (nodes_from g.row.D l.fn.reach.limit l.entry-index) 0
    l.fn.pairs.items l.pairs.items

-- the pairs below the entry and the other node's entries so far are added; the look at the left node is one
-- ahead of the pairs until there is one
abbrev pub invariant-add_pairs_of_entry-other : goal.invariant-add_pairs_of_entry-other
invariant-add_pairs_of_entry-other g l =
    Progress g.row.D l.fn.reach.limit l.fn.cache l.cache (sole l.fn.level (item_of l.fn.entry))
    (content_of l.fn.right.node.now) (left_beside g.row.D l.fn.reach.limit l.from)
    (nodes_beside g.row.D l.fn.reach.limit l.from) (1 - l.from) l.fn.pairs.items l.pairs.items
    × (l.from ≤ length l.fn.right.node.now.entries.items)

-- each entry comes after the one before it
abbrev pub decreases-add_pairs_of_entry-other : goal.decreases-add_pairs_of_entry-other
decreases-add_pairs_of_entry-other g l = 128 - l.from
