-- What is read is one of the outcomes.
use Rattle.block_device.specs.Device.{BeginsOne, Blocks}
use Rattle.committed_log.specs.Log.{recovered}
use Rattle.logged_pair.specs.CommitLaws.{begins}
use Rattle.logged_pair.specs.OpeningLaws.{opening_keeps}
use Rattle.logged_pair.specs.Standing.{commits_of, pair_of}
use Rattle.logged_pair.proofs.laws.a_stop_within_opening_leaves_a_commit.Goals as goal

pub returns : goal.returns
returns g c = λ d pair opened hd h more x.
    let p = g.P.DevicePair in
    let all : (a b : Blocks) → p.may_leave pair a b
    → BeginsOne (commits_of d) (recovered a b) =
    λ a b left. begins d a b (g.met.P.DevicePair.few_blocks (pair_of d)).0 hd (more a b left) in
    opening_keeps p.moment p.left_since (p.may_leave pair) (commits_of d)
    (recovered (p.base pair) (p.journal pair)) pair opened all
    (all (p.base pair) (p.journal pair) (g.met.P.DevicePair.shown_counts pair h)) x
