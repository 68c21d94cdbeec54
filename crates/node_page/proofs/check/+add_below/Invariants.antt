-- What holds at each turn of the loop of `add_below`, and how deep it goes.
use Rattle.std.proofs.Common.{length}
use Rattle.node_page.proofs.CheckLemmas.{Walk}
use Rattle.node_page.proofs.check.+add_below.Given as goal

-- each call below is for a lower level
abbrev pub decreases-add_below : goal.decreases-add_below
decreases-add_below g l = l.node.now.level

-- the trees below the entries so far are checked
abbrev pub invariant-loop-entry : goal.invariant-loop-entry
invariant-loop-entry g l =
    Walk g.row.D l.fn.fanout l.fn.cache l.cache l.fn.node.level l.entry-items l.entry-index l.fn.pairs.items
    l.pairs.items l.fn.visits.pages.items l.visits.pages.items (length l.fn.visits.marks.items)
    (length l.visits.marks.items)
