-- What stands of the log, and of the region behind it, says it.
use Rattle.logged_pair.specs.CommitLaws.{left_well}
use Rattle.logged_pair.proofs.laws.a_log_that_is_left_is_well_formed.Goals as goal

pub returns : goal.returns
returns g c = λ d a b h left bad. left_well d a b h left bad
