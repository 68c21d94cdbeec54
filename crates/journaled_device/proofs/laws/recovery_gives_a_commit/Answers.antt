-- Of its logged pair it is so.
use Rattle.journaled_device.specs.Journaled.{inner_of}
use Rattle.journaled_device.proofs.laws.recovery_gives_a_commit.Goals as goal

pub returns : goal.returns
returns g c = λ d a b. c.recovery_gives_a_commit.ensures (inner_of d) a b
