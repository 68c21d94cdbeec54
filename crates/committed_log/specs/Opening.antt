-- What opening reads of a log, and what a stop within it leaves.
use Rattle.std.specs.Prelude.{◌≡◌, ◌⊎◌, ◌<◌, ◌≤◌, ℕ, true, false, List, length, drop, take}
use Rattle.std.specs.List.{All}
use Rattle.block_device.specs.Device.{Blocks, block_at}
use Rattle.committed_log.specs.Log.{count_in, homes_in, recovered, says, size_of, slot_homes}

-- both devices are synced: a stop leaves them as they are read
abbrev pub AreSynced : Blocks → Blocks → (Blocks → Blocks → Type 0) → Type 0
AreSynced base journal may_leave = (a b : Blocks) → may_leave a b → (a ≡ base) × (b ≡ journal)

-- what a stop left before, or what recovers to these blocks
abbrev pub LeavesOr : (Blocks → Blocks → Type 0) → Blocks → Blocks → Blocks → Type 0
LeavesOr may_leave blocks a b = may_leave a b ⊎ (recovered a b ≡ blocks)

-- a region has all its blocks, and each home of its slots is a block of the base
pub record IsWhole (a b : Blocks) : Type 0 where
  pub room : size_of b ≤ length b
  pub homes : All (λ h. h < length a) (slot_homes (count_in b) 0 (count_in b) b)

-- a region says that it is committed, and is not whole
abbrev pub IsBroken : Blocks → Blocks → Type 0
IsBroken a b = (says (block_at 0 b) ≡ true) × ¬ IsWhole a b

-- a journal of one block at most, which does not say that a region is committed
pub record IsEmpty (b : Blocks) : Type 0 where
  pub few : length b ≤ 1
  pub unsaid : says (block_at 0 b) ≡ false

-- behind some regions one says that it is committed, and is not whole
pub record IsMalformed (a b : Blocks) : Type 0 where
  pub homes : List ℕ
  pub regions : homes_in (take (length homes) b) ≡ homes
  pub says_so : says (block_at 0 (drop (length homes) b)) ≡ true
  pub not_whole : ¬ IsWhole a (drop (length homes) b)
