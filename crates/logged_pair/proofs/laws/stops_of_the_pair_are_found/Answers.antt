-- The moments since one include those since a later one.
use Rattle.std.proofs.Common.{refl}
use Rattle.logged_pair.specs.Standing.{pair_of}
use Rattle.logged_pair.proofs.laws.stops_of_the_pair_are_found.Goals as goal

pub returns : goal.returns
returns g c = λ d t u a b h le left.
    (a, b, g.met.P.DevicePair.since_earlier (pair_of d) t u a b h le left, refl)
