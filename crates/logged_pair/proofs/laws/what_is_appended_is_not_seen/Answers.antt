-- The first blocks stay.
use Rattle.logged_pair.specs.SnapshotLaws.{appended_log, appended_seen}
use Rattle.logged_pair.proofs.laws.what_is_appended_is_not_seen.Goals as goal

pub returns-clause-log : goal.returns-clause-log
returns-clause-log c = λ p base journal a b le is. appended_log p base journal a b le is

pub returns-clause-blocks : goal.returns-clause-blocks
returns-clause-blocks c = λ p n base journal a b le is. appended_seen p n base journal a b le is
