-- The pair's moment then is no later.
use Rattle.std.proofs.Common.{arith}
use Rattle.journaled_device.specs.Journaled.{inner_of, pair_moment_of}
use Rattle.journaled_device.proofs.laws.stops_of_the_pair_are_found.Goals as goal

pub returns : goal.returns
returns g c = λ d t u a b h le.
    c.stops_of_the_pair_are_found.ensures (inner_of d) (pair_moment_of d t) u a b h (omega (arith, le))
