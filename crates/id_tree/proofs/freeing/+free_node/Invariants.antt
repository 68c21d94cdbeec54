-- The children so far are freed, and each call below is for a lower level.
use Rattle.id_tree.proofs.FreeLemmas.{Freeing}
use Rattle.id_tree.proofs.freeing.+free_node.Given as goal

abbrev pub invariant-loop-place : goal.invariant-loop-place
invariant-loop-place g l = Freeing g.row.D l.fn.page l.fn.level l.fn.cache l.cache l.place

abbrev pub decreases-free_node : goal.decreases-free_node
decreases-free_node g l = l.level
