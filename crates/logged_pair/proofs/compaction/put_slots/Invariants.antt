-- The newest slots of the first k homes are added.
use Rattle.std.proofs.Common.{◌≡◌, ◌≤◌, ◌↔◌, ◌^◌, ◌++◌, drop, length}
use Rattle.block_device.specs.Device.{Blocks}
use Rattle.committed_log.specs.Room.{blocks_of}
use Rattle.logged_pair.specs.Compaction.{AreNewest, WritesJournal}
use Rattle.logged_pair.proofs.compaction.put_slots.Given as goal

abbrev pub invariant-loop-k : goal.invariant-loop-k
invariant-loop-k g l = let j = g.J.BlockDevice in let p = g.P.DevicePair in
    (j.honest l.fn.from ↔ j.honest l.from) × (j.honest l.fn.from → j.shown l.from ≡ j.shown l.fn.from)
    × (p.honest l.fn.pair ↔ p.honest l.pair) × (p.honest l.fn.pair → WritesJournal p l.fn.pair l.pair)
    × (p.honest l.fn.pair → (blocks : Blocks) × (p.journal l.pair ≡ p.journal l.fn.pair ++ blocks)
    × (j.honest l.fn.from →
    AreNewest (blocks_of l.fn.slots) (drop l.fn.front (j.shown l.fn.from)) l.fn.homes l.k blocks))
    × (l.fn.front ≤ 2 ^ 31) × (l.k-end ≡ length l.fn.homes)
