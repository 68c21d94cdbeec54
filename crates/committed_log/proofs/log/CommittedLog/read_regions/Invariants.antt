-- So many regions are taken in.
use Rattle.std.proofs.Common.{◌-◌, ◌^◌, length}
use Rattle.committed_log.specs.Committed.{homes_of}
use Rattle.committed_log.proofs.Reading.{TakenTo}
use Rattle.committed_log.proofs.log.CommittedLog.read_regions.Given as goal

abbrev pub invariant-regions : goal.invariant-regions
invariant-regions g l = TakenTo l.fn.self l.self

abbrev pub decreases-regions : goal.decreases-regions
decreases-regions g l = 2 ^ 32 - length (homes_of l.self)
