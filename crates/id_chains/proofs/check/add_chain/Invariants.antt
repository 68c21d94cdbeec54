-- What holds at each turn of the loop of `add_chain`.
use Rattle.std.proofs.Common.{length}
use Rattle.id_chains.proofs.CheckedLemmas.{Chained}
use Rattle.id_chains.proofs.check.add_chain.Given as goal

-- the buckets so far are checked
abbrev pub invariant-loop-walked : goal.invariant-loop-walked
invariant-loop-walked g l =
    Chained g.row.D l.fn.class l.fn.first l.fn.cache l.cache l.walked l.number l.fn.pairs.items l.pairs.items
    l.fn.visits.pages.items l.visits.pages.items l.seen (length l.fn.visits.marks.items)
    (length l.visits.marks.items)
