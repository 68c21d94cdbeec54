-- The first k slots are chained.
use Rattle.std.proofs.Common.{◌≡◌, ◌≤◌, length, take, vec_capacity, vec_len}
use Rattle.committed_log.specs.Buckets.{AreChained}
use Rattle.committed_log.proofs.slots.calls.chain.Given as goal

abbrev pub invariant-loop-k : goal.invariant-loop-k
invariant-loop-k g l = AreChained (take l.k l.homes) l.before.items l.heads.items
    × (length l.homes ≤ vec_capacity l.before) × (vec_len l.heads ≡ vec_len l.initial.heads)
    × (vec_capacity l.before ≡ vec_capacity l.initial.before)
    × (vec_capacity l.heads ≡ vec_capacity l.initial.heads)
