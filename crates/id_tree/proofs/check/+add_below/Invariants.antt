-- The children so far are found to stand, and each call below is for a lower level.
use Rattle.std.proofs.Common.{length}
use Rattle.id_tree.proofs.CheckLemmas.{Checking}
use Rattle.id_tree.proofs.check.+add_below.Given as goal

abbrev pub invariant-loop-place : goal.invariant-loop-place
invariant-loop-place g l =
    Checking g.row.D l.fn.node.level l.fn.node.edge l.fn.node.low l.fn.node.top l.fn.bytes l.fn.cache l.cache l.place
    l.fn.pairs.items l.pairs.items l.fn.visits.pages.items l.visits.pages.items l.fn.seen l.seen
    (length l.fn.visits.marks.items) (length l.visits.marks.items)

abbrev pub decreases-add_below : goal.decreases-add_below
decreases-add_below g l = l.node.level
