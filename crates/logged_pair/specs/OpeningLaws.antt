-- Laws on recovery, over runs.
use Rattle.std.proofs.Common.{◌≡◌, ℕ, subst, sym, ⊎_elim}
use Rattle.block_device.specs.Device.{BeginsOne, Blocks}
use Rattle.device_pair.specs.Pairs.{PairLeaves}
use Rattle.device_pair.specs.Runs.{pair_weaker}
use Rattle.committed_log.specs.Log.{recovered}
use Rattle.committed_log.specs.Opening.{LeavesOr}

-- What leaves what was left, or recovers to these blocks, leaves one of these commits where all of that does.
pub opening_keeps : {D : Type 0} (moment : D → ℕ) (left_since : D → ℕ → Blocks → Blocks → Type 0)
    (may_leave : Blocks → Blocks → Type 0) (commits : Blocks → Type 0) (blocks : Blocks) (old new : D)
    → ((a b : Blocks) → may_leave a b → BeginsOne commits (recovered a b)) → BeginsOne commits blocks
    → PairLeaves moment left_since old new (LeavesOr may_leave blocks)
    → PairLeaves moment left_since old new (λ a b. BeginsOne commits (recovered a b))
opening_keeps moment left_since may_leave commits blocks old new all one x =
    pair_weaker moment left_since old new _ _
    (λ a b left. ⊎_elim (all a b) (λ (e : recovered a b ≡ blocks). subst (BeginsOne commits) (sym e) one) left)
    x
