-- What a stop leaves of the base as it is read through the regions and of the journal behind them, while the
-- region there is filled and while it is decided whether it is committed.
use Rattle.std.specs.Prelude.{◌≡◌, ◌<◌, ◌≤◌, ◌⊎◌, ◌+◌, ℕ, Bool, true, false, List, ◌∷◌, length, take}
use Rattle.std.specs.List.{All}
use Rattle.block_device.specs.Device.{Begins, Blocks, block_at}
use Rattle.committed_log.specs.Log.{count_in, index_blocks, no_home, overlaid, says, slot_homes}

-- the homes of the first blocks of a region whose slots have these
abbrev pub open_homes : List ℕ → List ℕ
open_homes slots = no_home ∷ no_home ∷ slots

-- the base as it is read through the slots of a region
abbrev pub shown_through : List ℕ → Blocks → Blocks → Blocks
shown_through slots journal base = overlaid (open_homes slots) journal base

-- the same blocks, block 0 aside
pub record SameBehind (b journal : Blocks) : Type 0 where
  pub as_many : length b ≡ length journal
  pub same : (k : ℕ) → 0 < k → block_at k b ≡ block_at k journal

-- The first `kept` blocks of the base are as they were committed, and the region is not.
pub record IsFilling (kept : ℕ) (base a b : Blocks) : Type 0 where
  pub begins : Begins (take kept base) a
  pub there : 0 < length b
  pub unsaid : says (block_at 0 b) ≡ false

-- The base is as it is read; the journal too, its flag aside, which decides.
pub record IsDeciding (base journal a b : Blocks) : Type 0 where
  pub base_is : a ≡ base
  pub journal_is : SameBehind b journal

-- what a stop leaves while it is decided, or while the region is filled
abbrev pub StopIn : Bool → ℕ → Blocks → Blocks → Blocks → Blocks → Type 0
StopIn false kept base journal a b = IsFilling kept base a b
StopIn true kept base journal a b = IsDeciding base journal a b

-- The count and the index of the region are there, and behind it flag and count of the next one, which is not
-- committed.
pub record IsRecorded (slots : List ℕ) (journal : Blocks) : Type 0 where
  pub count : count_in journal ≡ length slots
  pub index : slot_homes (length slots) 0 (length slots) journal ≡ slots
  pub room : 2 + length slots + index_blocks (length slots) + 2 ≤ length journal
  pub last : says (block_at (2 + length slots + index_blocks (length slots)) journal) ≡ false

abbrev pub ReadsIn : Bool → List ℕ → Blocks → Type 0
ReadsIn false slots journal = Unit {0}
ReadsIn true slots journal = IsRecorded slots journal

-- the commits that a stop may leave: the last one, or while it is decided the one that is read now, too
abbrev pub CommitsIn : Bool → ℕ → List ℕ → Blocks → Blocks → Blocks → Type 0
CommitsIn false kept slots base journal c = c ≡ take kept base
CommitsIn true kept slots base journal c = (c ≡ take kept base) ⊎ (c ≡ shown_through slots journal base)

-- what stands of the region behind the others on an honest pair
pub record IsStanding (deciding clearing : Bool) (kept : ℕ) (slots : List ℕ) (base journal : Blocks)
    (leaves : Blocks → Blocks → Type 0) : Type 0 where
  pub kept_there : kept ≤ length base
  pub homes_below : All (λ h. h < kept) slots
  pub room : 2 + length slots ≤ length journal
  pub reads : ReadsIn deciding slots journal
  pub stops : (a b : Blocks) → leaves a b → StopIn deciding kept base journal a b
  pub clear : clearing ≡ true → (deciding ≡ false) × (length slots ≡ 0)
