-- What holds at each turn of the loop of `free_chain`.
use Rattle.id_chains.proofs.FreeLemmas.{Freeing}
use Rattle.id_chains.proofs.freeing.free_chain.Given as goal

-- the first buckets are freed, and the rest stands
abbrev pub invariant-loop-freed : goal.invariant-loop-freed
invariant-loop-freed g l =
    Freeing g.row.D l.fn.first l.fn.cache l.cache l.freed l.before l.number
