-- What stands of the pair says it.
use Rattle.logged_pair.specs.CommitLaws.{begins}
use Rattle.logged_pair.specs.Standing.{pair_of}
use Rattle.logged_pair.proofs.laws.recovery_gives_a_commit.Goals as goal

pub returns : goal.returns
returns g c = λ d a b h left. begins d a b (g.met.P.DevicePair.few_blocks (pair_of d)).0 h left
