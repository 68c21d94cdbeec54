-- The homes of the first k slots are read.
use Rattle.std.proofs.Common.{◌≡◌, ◌≤◌, length, vec_capacity}
use Rattle.committed_log.specs.Committed.{seen_of}
use Rattle.committed_log.proofs.Reading.{HomesTo}
use Rattle.committed_log.proofs.log.CommittedLog.read_homes.Given as goal

abbrev pub invariant-loop-k : goal.invariant-loop-k
invariant-loop-k g l = HomesTo l.n l.limit l.k l.homes.items l.page l.fn.self l.self
    × (l.n ≤ vec_capacity l.homes) × (l.limit ≡ length (seen_of l.fn.self))
