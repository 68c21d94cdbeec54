-- What stands of the pair says it.
use Rattle.std.proofs.Common.{refl}
use Rattle.logged_pair.specs.SnapshotLaws.{last_seen, last_there}
use Rattle.logged_pair.specs.Snapshots.{end_of}
use Rattle.logged_pair.specs.Standing.{clearing_of, deciding_of, homes_of, kept_of, log_of, pair_of}
use Rattle.logged_pair.proofs.laws.the_last_commit_is_a_snapshot.Goals as goal

pub returns-clause-there : goal.returns-clause-there
returns-clause-there g c = λ d n h settled le.
    last_there (deciding_of d) (clearing_of d) (kept_of d) n (homes_of d) (log_of d)
    (g.met.P.DevicePair.few_blocks (pair_of d)).0 h settled le (d.standing h)

pub returns-clause-shown : goal.returns-clause-shown
returns-clause-shown g c = λ d n h settled. last_seen (end_of d) n (log_of d) refl h settled
