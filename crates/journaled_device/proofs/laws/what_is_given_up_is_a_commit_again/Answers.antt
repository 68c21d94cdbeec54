-- Of its logged pair it is so.
use Rattle.journaled_device.specs.Journaled.{inner_of}
use Rattle.journaled_device.proofs.laws.what_is_given_up_is_a_commit_again.Goals as goal

pub returns : goal.returns
returns g c = λ d opened. c.what_is_given_up_is_a_commit_again.ensures (inner_of d) (inner_of opened)
