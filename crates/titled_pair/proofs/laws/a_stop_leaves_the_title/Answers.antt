-- What is left now is left since then.
use Rattle.titled_pair.specs.Pair.{pair_of}
use Rattle.titled_pair.proofs.laws.a_stop_leaves_the_title.Goals as goal

pub returns-clause-now : goal.returns-clause-now
returns-clause-now g c = λ d p n a e h is left.
    let m = g.P.DevicePair in
    let stands = d.titled h p n is in
    stands.title a e (g.met.P.DevicePair.counts_now (pair_of d) (m.moment p) a e h stands.later left)
