-- What stands of the log says it.
use Rattle.committed_log.specs.Committed.{pair_of}
use Rattle.committed_log.proofs.Through.{recovery_of}
use Rattle.committed_log.proofs.laws.recovery_goes_through_the_regions.Goals as goal

pub returns : goal.returns
returns g c = λ d a b h left. recovery_of d a b (g.met.P.DevicePair.few_blocks (pair_of d)).0 h left
