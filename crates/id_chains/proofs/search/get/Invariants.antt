-- What holds at each turn of the loop of `get`.
use Rattle.id_chains.proofs.GetLemmas.{Walking}
use Rattle.id_chains.proofs.search.get.Given as goal

-- none of the buckets so far has the identifier
abbrev pub invariant-loop-walked : goal.invariant-loop-walked
invariant-loop-walked g l =
    Walking g.row.D l.fn.id l.fn.directory l.fn.cache l.cache l.walked l.before l.number
