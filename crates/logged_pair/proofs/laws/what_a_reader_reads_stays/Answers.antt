-- It is what a snapshot is.
use Rattle.std.proofs.Common.{arith}
use Rattle.logged_pair.specs.SnapshotLaws.{index_seen, length-seen}
use Rattle.logged_pair.specs.Standing.{log_of}
use Rattle.logged_pair.proofs.laws.what_a_reader_reads_stays.Goals as goal

pub returns-clause-log : goal.returns-clause-log
returns-clause-log g c = λ d p n a b s left. (s.stays a b left).log

pub returns-clause-now : goal.returns-clause-now
returns-clause-now g c = λ d p n a b s left. (s.stays a b left).blocks

pub returns-clause-index : goal.returns-clause-index
returns-clause-index g c = λ d p n a b s left. index_seen 0 p n (log_of d) a b s.ends (s.stays a b left)

pub returns-clause-blocks : goal.returns-clause-blocks
returns-clause-blocks g c = λ d p n h s.
    length-seen p n (log_of d) (omega (arith, s.few, (d.standing h).kept_there))
