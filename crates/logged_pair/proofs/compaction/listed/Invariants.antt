-- The blocks below the next one are listed.
use Rattle.committed_log.specs.Room.{blocks_of}
use Rattle.logged_pair.specs.Compaction.{AreListed}
use Rattle.logged_pair.proofs.compaction.listed.Given as goal

abbrev pub invariant-loop-i : goal.invariant-loop-i
invariant-loop-i g l = AreListed (blocks_of l.fn.slots) l.i l.homes.items
