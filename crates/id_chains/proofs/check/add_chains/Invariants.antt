-- What holds at each turn of the loop of `add_chains`.
use Rattle.std.proofs.Common.{length}
use Rattle.id_chains.proofs.CheckedLemmas.{AllChained}
use Rattle.id_chains.proofs.check.add_chains.Given as goal

-- the chains so far are checked
abbrev pub invariant-loop-class : goal.invariant-loop-class
invariant-loop-class g l =
    AllChained g.row.D l.directory l.fn.cache l.cache l.class l.fn.pairs.items l.pairs.items
    l.fn.visits.pages.items l.visits.pages.items (length l.fn.visits.marks.items)
    (length l.visits.marks.items)
