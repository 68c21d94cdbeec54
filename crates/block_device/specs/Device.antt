-- The words of a device's contract: what a call does to the blocks, what a stop may leave, and how
-- faults are counted (our disk model, docs/FORMAT.md, "The disk model of a stop").
use Rattle.std.specs.Prelude.{◌≡◌, ◌<◌, ◌≤◌, ◌⊎◌, ◌+◌, ◌-◌, ◌^◌, ℕ, zero, suc, List, [], ◌∷◌, length}
use Rattle.std.specs.Prelude.{slice_index, slice_index_or, Result, IsErrOf, min}
use Rattle.block_device.specs.declared.device.DeviceError.{DeviceError}
use Rattle.block_device.specs.declared.device.DeviceError.TheVariants.{Failed}

-- the bytes of one block: 4096 numbers, each below 256
pub record IsBlock (bytes : List ℕ) : Type 0 where
  pub size : length bytes ≡ 4096
  pub bytes_fit : (k : ℕ) → slice_index bytes k < 256

-- the bytes of each block of a device
abbrev pub Blocks : Type 0
Blocks = List (List ℕ)

-- block i, and no bytes where there is none
abbrev pub block_at : ℕ → Blocks → List ℕ
block_at i blocks = slice_index_or blocks i []

-- the blocks with these bytes in block i, or in one more after the last where there is no block i
abbrev pub written : ℕ → List ℕ → Blocks → Blocks
written i bytes [] = bytes ∷ []
written zero bytes (b ∷ blocks) = bytes ∷ blocks
written (suc i) bytes (b ∷ blocks) = b ∷ written i bytes blocks

-- what a write of block i that is cut short makes of the old blocks: nothing, or any 4096 bytes in it
abbrev pub Torn : ℕ → Blocks → Blocks → Type 0
Torn i old new = (new ≡ old) ⊎ ((bytes : List ℕ) × IsBlock bytes × (new ≡ written i bytes old))

-- each new outcome of a stop is an old outcome after a step
abbrev pub Follows : (Blocks → Blocks → Type 0) → (Blocks → Type 0) → (Blocks → Type 0) → Type 0
Follows step old new = (c : Blocks) → new c → (d : Blocks) × old d × step d c

-- each new outcome of a stop is an old one
abbrev pub LeavesNoMore : (Blocks → Type 0) → (Blocks → Type 0) → Type 0
LeavesNoMore old new = (c : Blocks) → new c → old c

-- a stop leaves these blocks and nothing else
abbrev pub Only : Blocks → (Blocks → Type 0) → Type 0
Only blocks outcomes = (c : Blocks) → outcomes c → c ≡ blocks

-- Time goes on by a call: what a stop since t might have left, it might have left before the call,
-- or it may leave it now.
pub record Elapses (before now : ℕ) (past since : ℕ → Blocks → Type 0) (may_leave : Blocks → Type 0) : Type
    0 where
  pub later : before ≤ now
  pub nothing_else : (t : ℕ) (c : Blocks) → t ≤ before → since t c → past t c ⊎ may_leave c
  pub keeps : (t : ℕ) (c : Blocks) → t ≤ before → past t c → since t c

-- the blocks begin with these, and hold anything behind them
pub record Begins (kept c : Blocks) : Type 0 where
  pub no_shorter : length kept ≤ length c
  pub same : (k : ℕ) → k < length kept → block_at k c ≡ block_at k kept

-- the blocks begin with one of these
abbrev pub BeginsOne : (Blocks → Type 0) → Blocks → Type 0
BeginsOne commits c = (kept : Blocks) × commits kept × Begins kept c

-- What a stop brings back of a device that commits (our rule, docs/FORMAT.md, "The journal"): the commits of
-- which one is brought back now, with any blocks behind it; what stops since a moment were found to have
-- left, once that was done; and which blocks are ever committed.
pub record Recovery (D : Type 0) : Type 1 where
  pub commits : D → Blocks → Type 0
  pub found_since : D → ℕ → Blocks → Type 0
  pub takes : Blocks → Type 0

-- a device without commits
abbrev pub no_recovery : {D : Type 0} → Recovery D
no_recovery = record { commits = λ d k. ⊥; found_since = λ d t c. ⊥; takes = λ k. ⊥ }

-- a commit that was there, or a new one, of blocks that have P
abbrev pub OrTaken : {D : Type 0} → Recovery D → D → (Blocks → Type 0) → Blocks → Type 0
OrTaken recovery old P k = recovery.commits old k ⊎ (recovery.takes k × P k)

-- Over a run of calls that began at `old`, each new commit was of blocks that have P, and each stop was found
-- to have left blocks that begin with a commit that was there, or with a new one.
pub record Brings {D : Type 0} (moment : D → ℕ) (recovery : Recovery D) (old new : D)
    (P : Blocks → Type 0) : Type 0 where
  pub commits : (k : Blocks) → recovery.commits new k → OrTaken recovery old P k
  pub found : (t : ℕ) (c : Blocks) → t ≤ moment old → recovery.found_since new t c
      → recovery.found_since old t c ⊎ BeginsOne (OrTaken recovery old P) c

-- Over a run of calls that began at `old`, each stop left blocks that have P. `before` is for a run
-- that began earlier.
pub record LeavesOnly {D : Type 0} (moment : D → ℕ) (left_since : D → ℕ → Blocks → Type 0)
    (recovery : Recovery D) (old new : D) (P : Blocks → Type 0) : Type 0 where
  pub later : moment old ≤ moment new
  pub each : (c : Blocks) → left_since new (moment old) c → P c
  pub before : (t : ℕ) (c : Blocks) → t ≤ moment old → left_since new t c → left_since old t c ⊎ P c
  pub brings : Brings moment recovery old new P

-- one more, up to the greatest u64
abbrev pub one_more : ℕ → ℕ
one_more n = min (n + 1) (2 ^ 64 - 1)

-- a count of faults rises by one with a `Failed`, and with nothing else
pub record Counts {T : Type 0} (before now : ℕ) (result : Result T DeviceError) : Type 0 where
  pub failed : IsErrOf result Failed → now ≡ one_more before
  pub other : (IsErrOf result Failed → ⊥) → now ≡ before

-- a count has risen, or is at its greatest, where it stays and counts as risen
abbrev pub HasRisen : ℕ → ℕ → Type 0
HasRisen before now = (before < now) ⊎ (2 ^ 64 - 1 ≤ now)
