-- The first k zeros.
use Rattle.std.proofs.Common.{◌≡◌, replicate, vec_capacity, vec_len}
use Rattle.committed_log.proofs.slots.calls.zeros.Given as goal

abbrev pub invariant-loop-k : goal.invariant-loop-k
invariant-loop-k g l = (l.row.items ≡ replicate l._k 0) × (vec_len l.row ≡ l._k)
    × (vec_capacity l.row ≡ l.fn.count)
