-- What stands of the log says it.
use Rattle.committed_log.proofs.Through.{malformed_of}
use Rattle.committed_log.proofs.laws.a_log_that_is_left_is_well_formed.Goals as goal

pub returns : goal.returns
returns g c = λ d a b h left bad. malformed_of d a b h left bad
