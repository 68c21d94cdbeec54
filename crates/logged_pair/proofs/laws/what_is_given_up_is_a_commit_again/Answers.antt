-- What is read is one of the outcomes.
use Rattle.std.proofs.Common.{subst, sym}
use Rattle.block_device.specs.Device.{BeginsOne}
use Rattle.logged_pair.specs.CommitLaws.{begins}
use Rattle.logged_pair.specs.Standing.{commits_of, pair_of}
use Rattle.logged_pair.proofs.laws.what_is_given_up_is_a_commit_again.Goals as goal

pub returns : goal.returns
returns g c = λ d opened h is.
    let p = g.P.DevicePair in
    subst (BeginsOne (commits_of d)) (sym is)
    (begins d (p.base (pair_of d)) (p.journal (pair_of d)) (g.met.P.DevicePair.few_blocks (pair_of d)).0 h
    (g.met.P.DevicePair.shown_counts (pair_of d) h))
