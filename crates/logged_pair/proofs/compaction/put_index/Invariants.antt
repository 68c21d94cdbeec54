-- The first j blocks of the index are added.
use Rattle.std.proofs.Common.{◌≡◌, ◌↔◌, ◌++◌}
use Rattle.std.specs.Prelude.{length}
use Rattle.block_device.specs.Device.{Blocks}
use Rattle.committed_log.specs.Log.{index_blocks}
use Rattle.logged_pair.specs.Compaction.{AreIndex, WritesJournal}
use Rattle.logged_pair.proofs.compaction.put_index.Given as goal

abbrev pub invariant-loop-j : goal.invariant-loop-j
invariant-loop-j g l = let p = g.P.DevicePair in
    (p.honest l.fn.pair ↔ p.honest l.pair) × (p.honest l.fn.pair → WritesJournal p l.fn.pair l.pair)
    × (p.honest l.fn.pair → (blocks : Blocks) × (p.journal l.pair ≡ p.journal l.fn.pair ++ blocks)
    × AreIndex l.fn.homes l.j blocks)
    × (l.j-end ≡ index_blocks (length l.fn.homes))
