-- It is what a snapshot behind block 0 is.
use Rattle.logged_pair.specs.SnapshotLaws.{index_seen, seen_behind}
use Rattle.logged_pair.specs.Standing.{kept_of, log_of}
use Rattle.logged_pair.proofs.laws.what_is_read_behind_the_gate_stays.Goals as goal

pub returns-clause-there : goal.returns-clause-there
returns-clause-there g c = λ d p n s. seen_behind 1 p n (kept_of d) (log_of d) s

pub returns-clause-log : goal.returns-clause-log
returns-clause-log g c = λ d p n a b s left. (s.stays a b left).log

pub returns-clause-now : goal.returns-clause-now
returns-clause-now g c = λ d p n a b s left. (s.stays a b left).blocks

pub returns-clause-index : goal.returns-clause-index
returns-clause-index g c = λ d p n a b s left. index_seen 1 p n (log_of d) a b s.ends (s.stays a b left)
