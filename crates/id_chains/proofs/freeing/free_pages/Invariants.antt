-- What holds at each turn of the loop of `free_pages`.
use Rattle.id_chains.proofs.FreeLemmas.{FreeingAll}
use Rattle.id_chains.proofs.freeing.free_pages.Given as goal

-- the directory and the chains so far are freed
abbrev pub invariant-loop-class : goal.invariant-loop-class
invariant-loop-class g l = FreeingAll g.row.D l.fn.directory l.fn.cache l.cache l.bytes l.class
