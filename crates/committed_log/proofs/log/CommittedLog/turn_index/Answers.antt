-- The index block is read.
use Rattle.committed_log.proofs.log.CommittedLog.turn_index.Goals as goal

pub returns-clause-held : goal.returns-clause-held
returns-clause-held g c = λ h. c.read_behind.ensures.bytes h

pub returns-clause-still : goal.returns-clause-still
returns-clause-still g c = λ h. c.read_behind.ensures.still h
