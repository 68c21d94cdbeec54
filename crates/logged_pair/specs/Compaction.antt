-- A log that is written anew, as one region that has the newest slot of each block (our format, docs/FORMAT.md, "The
-- journal").
use Rattle.std.specs.Prelude.{◌≡◌, ◌<◌, ◌+◌, ◌*◌, ◌⊎◌, ◌++◌, ◌∷◌, ℕ, List, [], length, slice_index}
use Rattle.std.specs.List.{All, Contains}
use Rattle.block_bytes.specs.Numbers.{number_at}
use Rattle.block_device.specs.Device.{Blocks, block_at}
use Rattle.committed_log.specs.Found.{IsSlot}
use Rattle.device_pair.specs.Pairs.{PairLeaves}
use Rattle.device_pair.specs.declared.pair.DevicePair as pair

-- block i is listed behind the others where it has a slot
abbrev pub Lists : List ℕ → ℕ → List ℕ → List ℕ → Type 0
Lists slots i old new = ((new ≡ old ++ i ∷ []) × Contains slots i) ⊎ ((new ≡ old) × ¬ Contains slots i)

-- The blocks below the limit that have a slot, in order.
pub record AreListed (slots : List ℕ) (limit : ℕ) (homes : List ℕ) : Type 0 where
  pub below : All (λ h. h < limit) homes
  pub found : (i : ℕ) → i < limit → Contains homes i ⊎ ¬ Contains slots i
  pub rising : (j k : ℕ) → j < k → k < length homes → slice_index homes j < slice_index homes k

-- the bytes of the newest slot of a block
abbrev pub IsNewest : List ℕ → Blocks → ℕ → List ℕ → Type 0
IsNewest slots log home bytes = (m : ℕ) × IsSlot slots home m × (bytes ≡ block_at m log)

-- the newest slots of the first n homes
pub record AreNewest (slots : List ℕ) (log : Blocks) (homes : List ℕ) (n : ℕ) (blocks : Blocks) : Type 0 where
  pub many : length blocks ≡ n
  pub newest : (k : ℕ) → k < n → IsNewest slots log (slice_index homes k) (block_at k blocks)

-- the first n blocks of the index of these homes
pub record AreIndex (homes : List ℕ) (n : ℕ) (blocks : Blocks) : Type 0 where
  pub many : length blocks ≡ n
  pub there : (j m : ℕ) → j < n → m < 1024 → j * 1024 + m < length homes
      → number_at 4 (4 * m) (block_at j blocks) ≡ slice_index homes (j * 1024 + m)

-- a base that one of these outcomes has, beside any journal
abbrev pub LeavesItsBase : (Blocks → Blocks → Type 0) → Blocks → Blocks → Type 0
LeavesItsBase outcomes a b = (d : Blocks) × outcomes a d

-- Of the base nothing was written: it is as it was, and a stop leaves of it what one before might have left.
pub record WritesJournal {P : Type 0} (m : pair.Ghosts P) (old new : P) : Type 0 where
  pub base : m.base new ≡ m.base old
  pub now : (a b : Blocks) → m.may_leave new a b → LeavesItsBase (m.may_leave old) a b
  pub stops : PairLeaves m.moment m.left_since old new (LeavesItsBase (m.may_leave old))
