-- What a stop leaves of a base and a log, and what stands of them.
use Rattle.std.specs.Prelude.{◌≡◌, ◌<◌, ◌≤◌, ℕ, Bool, true, false, List, length, set, take, drop}
use Rattle.std.specs.List.{All}
use Rattle.block_device.specs.Device.{Blocks, block_at}
use Rattle.committed_log.specs.Log.{count_in, flag_block, homes_in, no_home, overlaid, says, size_of, slot_homes}

-- a block of a base that has n, or none
abbrev pub IsHome : ℕ → ℕ → Type 0
IsHome n h = ¬ (h < n) → h ≡ no_home

-- a log whose first flag says that its region is committed
abbrev pub flagged : Blocks → Blocks
flagged b = set b 0 (flag_block 1)

-- The first region has all its blocks, and each home of its slots is below n.
pub record IsWholeBelow (n : ℕ) (b : Blocks) : Type 0 where
  pub room : size_of b ≤ length b
  pub homes : All (λ h. h < n) (slot_homes (count_in b) 0 (count_in b) b)

-- So has each region that says, behind others or as the first, that it is committed.
unfoldable pub AreWholeBelow : ℕ → Blocks → Type 0
AreWholeBelow n b = (homes : List ℕ) → homes_in (take (length homes) b) ≡ homes
    → says (block_at 0 (drop (length homes) b)) ≡ true → IsWholeBelow n (drop (length homes) b)

-- The regions are as they are read, each home is there, and so is the block behind them.
pub record IsKept (log : List ℕ) (journal a b : Blocks) : Type 0 where
  pub there : length log < length b
  pub regions : take (length log) b ≡ take (length log) journal
  pub homes : All (IsHome (length a)) log

-- The base has all that the log has, and the regions are as they are read, the first flag aside. The region
-- behind them is not committed.
pub record IsClearing (homes : List ℕ) (base journal a b : Blocks) : Type 0 where
  pub base_is : a ≡ base
  pub there : length homes < length b
  pub same : (k : ℕ) → 0 < k → k < length homes → block_at k b ≡ block_at k journal
  pub unsaid : says (block_at (length homes) b) ≡ false

-- what a stop leaves while the first flag is cleared, or else
abbrev pub StopIn : Bool → List ℕ → Blocks → Blocks → Blocks → Blocks → Type 0
StopIn false homes base journal a b = IsKept homes journal a b
StopIn true homes base journal a b = IsClearing homes base journal a b

-- what is read of them
abbrev pub ReadsIn : Bool → List ℕ → Blocks → Blocks → Type 0
ReadsIn false homes base journal = 0 < length homes → says (block_at 0 journal) ≡ true
ReadsIn true homes base journal = (0 < length homes) × (overlaid homes journal base ≡ base)

-- what stands of a base and a log on an honest pair
pub record IsStanding (clearing : Bool) (log : List ℕ) (base journal : Blocks)
    (may_leave : Blocks → Blocks → Type 0) : Type 0 where
  pub there : length log < length journal
  pub regions : homes_in (flagged (take (length log) journal)) ≡ log
  pub homes : All (IsHome (length base)) log
  pub whole : AreWholeBelow no_home (flagged (take (length log) journal))
  pub reads : ReadsIn clearing log base journal
  pub stops : (a b : Blocks) → may_leave a b → StopIn clearing log base journal a b
