-- What stands before the slots are copied home, and after.
use Rattle.std.specs.Prelude.{◌≡◌, ◌<◌, ℕ, false, List, length, take}
use Rattle.block_device.specs.Device.{Blocks, block_at}
use Rattle.device_pair.specs.Pairs.{PairLeaves}
use Rattle.committed_log.specs.Committed.{base_of, homes_of, journal_of, leaves_of, pair_of, seen_of}
use Rattle.committed_log.specs.Found.{IsSlot}
use Rattle.committed_log.specs.Log.{overlaid, recovered, says}
use Rattle.committed_log.specs.declared.log.CommittedLog.{CommittedLog}

-- The base is synced, as it is read through the regions, and no region behind them is committed.
pub record IsQuiet {P A : Type 0} {m : _} (c : CommittedLog P A m) : Type 0 where
  pub base : (v j : Blocks) → leaves_of c v j → v ≡ seen_of c
  pub unsaid : (v j : Blocks) → leaves_of c v j → says (block_at 0 j) ≡ false
  pub there : (v j : Blocks) → leaves_of c v j → 0 < length j

-- Block k of the regions is at home where it is the newest slot of its block; all other blocks stay.
pub record IsCopied {P A : Type 0} {m : _} (k : ℕ) (old new : CommittedLog P A m) : Type 0 where
  pub home : (i : ℕ) → i < length (base_of old) → IsSlot (homes_of old) i k
      → block_at i (base_of new) ≡ block_at k (journal_of old)
  pub others : (i : ℕ) → ¬ IsSlot (homes_of old) i k → block_at i (base_of new) ≡ block_at i (base_of old)
  pub as_many : length (base_of new) ≡ length (base_of old)

-- Who has read regions of these homes, and no further, sees these blocks of what a stop leaves: as well who reads
-- the regions of it now, as who read them before.
abbrev pub FirstShow : List ℕ → Blocks → Blocks → Blocks → Type 0
FirstShow homes seen a b = (recovered a (take (length homes) b) ≡ seen) × (overlaid homes b a ≡ seen)

-- the same blocks, block i aside
pub record SameBut (i : ℕ) (old new : Blocks) : Type 0 where
  pub as_many : length new ≡ length old
  pub others : (k : ℕ) → ¬ (k ≡ i) → block_at k new ≡ block_at k old

-- a stop might have left these before, block i of the base aside
abbrev pub LeftBut : ℕ → (Blocks → Blocks → Type 0) → Blocks → Blocks → Type 0
LeftBut i may_leave a b = (d : Blocks) × may_leave d b × SameBut i d a

-- Of the base at most block i was written: as it is read, in what a stop leaves, and at each moment within the call.
pub record WritesOnly {P A : Type 0} {m : _} (i : ℕ) (old new : CommittedLog P A m) : Type 0 where
  pub base : SameBut i (base_of old) (base_of new)
  pub left : (a b : Blocks) → m.may_leave (pair_of new) a b → LeftBut i (m.may_leave (pair_of old)) a b
  pub stops : PairLeaves m.moment m.left_since (pair_of old) (pair_of new)
      (LeftBut i (m.may_leave (pair_of old)))
