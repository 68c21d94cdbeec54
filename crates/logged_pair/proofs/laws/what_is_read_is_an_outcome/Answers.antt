-- Of the pair it is.
use Rattle.std.proofs.Common.{refl}
use Rattle.logged_pair.specs.Standing.{pair_of}
use Rattle.logged_pair.proofs.laws.what_is_read_is_an_outcome.Goals as goal

pub returns : goal.returns
returns g c = λ d h.
    let p = g.P.DevicePair in
    (p.base (pair_of d), p.journal (pair_of d), g.met.P.DevicePair.shown_counts (pair_of d) h, refl)
