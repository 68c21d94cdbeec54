-- What stops leave within a call that gives up what was written since the last commit.
use Rattle.std.proofs.Common.{◌∙◌, arith}
use Rattle.block_device.specs.Device.{Begins, BeginsOne, Blocks}
use Rattle.device_pair.specs.Pairs.{PairLeaves}
use Rattle.device_pair.specs.Runs.{pair_weaker}
use Rattle.committed_log.specs.Log.{recovered}
use Rattle.logged_pair.specs.Standing.{KeepsTo, commits_of, pair_of}
use Rattle.logged_pair.specs.declared.pair.LoggedPair.{LoggedPair}

begins_then : (a b c : Blocks) → Begins a b → Begins b c → Begins a c
begins_then a b c x y = record {
  no_shorter = omega (arith, x.no_shorter, y.no_shorter);
  same = λ k lt. y.same k (omega (arith, lt, x.no_shorter)) ∙ x.same k lt;
}

-- what begins with blocks that begin with a commit
one_then : (commits : Blocks → Type 0) (c : Blocks) → BeginsOne (BeginsOne commits) c → BeginsOne commits c
one_then commits c one = (one.1.0, one.1.1, begins_then one.1.0 one.0 c one.1.2 one.2)

pub stops_given_up : {P A : Type 0} {m : _} (old new : LoggedPair P A m)
    → KeepsTo (BeginsOne (commits_of old)) old new
    → PairLeaves m.moment m.left_since (pair_of old) (pair_of new)
    (λ a b. BeginsOne (commits_of old) (recovered a b))
stops_given_up {m = m} old new k =
    pair_weaker m.moment m.left_since (pair_of old) (pair_of new) _ _
    (λ a b. one_then (commits_of old) (recovered a b)) k.stops
