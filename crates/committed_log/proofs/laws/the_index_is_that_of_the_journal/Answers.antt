-- The regions, and a block behind them that is in none.
use Rattle.committed_log.specs.Committed.{homes_of, journal_of}
use Rattle.committed_log.proofs.Through.{index_so, regions_of}
use Rattle.committed_log.proofs.laws.the_index_is_that_of_the_journal.Goals as goal

pub returns : goal.returns
returns g c = λ d journal h settled unsaid begins room.
    index_so (homes_of d) (journal_of d) journal (regions_of d h settled) unsaid begins room
