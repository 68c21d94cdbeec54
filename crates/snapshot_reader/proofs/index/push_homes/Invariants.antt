-- The first k slots are added.
use Rattle.std.proofs.Common.{drop}
use Rattle.committed_log.specs.Room.{blocks_of}
use Rattle.snapshot_reader.proofs.Reading.{AreHomed, IsLonger}
use Rattle.snapshot_reader.proofs.index.push_homes.Given as goal

abbrev pub invariant-loop-k : goal.invariant-loop-k
invariant-loop-k g l = IsLonger l.k l.fn.slots l.slots
    × (g.J.BlockReader.honest l.journal → AreHomed l.n l.limit l.k l.page (blocks_of l.fn.slots)
    (blocks_of l.slots) (drop l.start (g.J.BlockReader.shown l.journal)))
