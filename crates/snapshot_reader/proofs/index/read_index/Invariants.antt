-- So many regions are taken in.
use Rattle.std.proofs.Common.{◌-◌, ◌≤◌, length}
use Rattle.committed_log.specs.Room.{blocks_of}
use Rattle.snapshot_reader.specs.Reading.{AreRead}
use Rattle.snapshot_reader.proofs.index.read_index.Given as goal

abbrev pub invariant-regions : goal.invariant-regions
invariant-regions g l = (length (blocks_of l.slots) ≤ length (g.J.BlockReader.shown l.journal))
    × (g.J.BlockReader.honest l.journal
    → AreRead l.limit (blocks_of l.slots) (g.J.BlockReader.shown l.journal))

abbrev pub decreases-regions : goal.decreases-regions
decreases-regions g l = length (g.J.BlockReader.shown l.journal) - length (blocks_of l.slots)
