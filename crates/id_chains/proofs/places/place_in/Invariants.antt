-- What holds at each turn of the loop of `place_in`.
use Rattle.id_chains.proofs.PlaceLemmas.{Searching}
use Rattle.id_chains.proofs.places.place_in.Given as goal

-- none of the buckets so far has the identifier
abbrev pub invariant-loop-walked : goal.invariant-loop-walked
invariant-loop-walked g l =
    Searching g.row.D l.fn.id l.fn.directory l.fn.first l.fn.cache l.cache l.walked l.before l.number
