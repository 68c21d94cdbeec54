-- A device in memory as its contracts see it: its blocks, its history, and what its calls answer.
use Rattle.std.specs.Prelude.{◌≡◌, ◌<◌, ℕ, List, [], ◌∷◌, length, replicate, Result, IsOk, OnOk, OnErr}
use Rattle.std.specs.Prelude.{IsErrOf}
use Rattle.std.specs.List.{Contains}
use Rattle.block_device.specs.declared.device.DeviceError.{DeviceError}
use Rattle.block_device.specs.declared.device.DeviceError.TheVariants.{Failed}
use Rattle.block_device.specs.declared.left.Left.{Left}
use Rattle.block_device.specs.declared.left.Left.TheVariants as left
use Rattle.block_device.specs.declared.memory.MemoryDevice.{MemoryDevice}
use Rattle.block_device.specs.Device.{Blocks, block_at, written, one_more}
use Rattle.block_device.specs.History.{Event, history, at_sync, unsynced, MayLeave, LeftSince}
use Rattle.block_device.specs.Stop.{IsFilled}

-- the blocks, as a read returns them
abbrev pub shown_of : {X : Type 0} → MemoryDevice X → Blocks
shown_of d = d.blocks

-- its writes that answered Ok and its syncs, the newest first
abbrev pub history_of : {X : Type 0} → MemoryDevice X → List Event
history_of d = history d.past.notes

-- how many writes answered Ok, up to the greatest u64
abbrev pub writes_of : {X : Type 0} → MemoryDevice X → ℕ
writes_of d = d.writes

-- the blocks as they were at the last sync
abbrev pub synced_of : {X : Type 0} → MemoryDevice X → Blocks
synced_of d = at_sync (shown_of d) (history_of d)

-- the numbers of the blocks that were written since, the newest first
abbrev pub unsynced_of : {X : Type 0} → MemoryDevice X → List ℕ
unsynced_of d = unsynced (history_of d)

-- what a stop now may leave
abbrev pub may_leave_of : {X : Type 0} → MemoryDevice X → Blocks → Type 0
may_leave_of d c = MayLeave (shown_of d) (history_of d) c

-- how many writes and syncs there were
abbrev pub moment_of : {X : Type 0} → MemoryDevice X → ℕ
moment_of d = length (history_of d)

-- what a stop at some moment from t on might have left
abbrev pub left_since_of : {X : Type 0} → MemoryDevice X → ℕ → Blocks → Type 0
left_since_of d t c = LeftSince (shown_of d) (history_of d) t c

-- A read answers Ok with the block's bytes, and changes nothing.
pub record AnswersRead {X : Type 0} (old : MemoryDevice X) (i : ℕ) (result : Result (Unit {0}) DeviceError)
    (into : List ℕ) (new : MemoryDevice X) : Type 0 where
  pub ok : IsOk result
  pub bytes : into ≡ block_at i (shown_of old)
  pub same : new ≡ old

-- the device after a write of block i
pub record HasWritten {X : Type 0} (old : MemoryDevice X) (i : ℕ) (bytes : List ℕ)
    (new : MemoryDevice X) : Type 0 where
  pub shown : shown_of new ≡ written i bytes (shown_of old)
  pub synced : synced_of new ≡ synced_of old
  pub unsynced : unsynced_of new ≡ i ∷ unsynced_of old
  pub counted : writes_of new ≡ one_more (writes_of old)

-- the device after a write that was refused
pub record IsUnchanged {X : Type 0} (old new : MemoryDevice X) : Type 0 where
  pub shown : shown_of new ≡ shown_of old
  pub history : history_of new ≡ history_of old
  pub writes : writes_of new ≡ writes_of old

-- A write answers Ok and is done, or Memory and nothing has changed. A block that was written since the
-- last sync takes no memory to be written again.
pub record AnswersWrite {X : Type 0} (old : MemoryDevice X) (i : ℕ) (bytes : List ℕ)
    (result : Result (Unit {0}) DeviceError) (new : MemoryDevice X) : Type 0 where
  pub done : OnOk result (HasWritten old i bytes new)
  pub refused : OnErr result (IsUnchanged old new)
  pub memory : IsErrOf result Failed → ⊥
  pub again : Contains (unsynced_of old) i → i < length (shown_of old) → IsOk result

-- A sync answers Ok, after which nothing is unsynced.
pub record AnswersSync {X : Type 0} (old : MemoryDevice X) (result : Result (Unit {0}) DeviceError)
    (new : MemoryDevice X) : Type 0 where
  pub ok : IsOk result
  pub shown : shown_of new ≡ shown_of old
  pub synced : synced_of new ≡ shown_of old
  pub unsynced : unsynced_of new ≡ []
  pub writes : writes_of new ≡ writes_of old

-- what a stop of this kind leaves of blocks that are read so now and were so at the last sync, where
-- those of these numbers were written since
abbrev pub IsLeft : Left → Blocks → Blocks → List ℕ → Blocks → Type 0
IsLeft left.Written shown synced numbers c = c ≡ shown
IsLeft left.Synced shown synced numbers c = c ≡ synced
IsLeft (left.Filled byte) shown synced numbers c = IsFilled (replicate 4096 byte) numbers shown c

-- A device that a stop has left: its blocks are such, all synced, with no history and no writes.
pub record IsLeftBy {X : Type 0} (kind : Left) (old new : MemoryDevice X) : Type 0 where
  pub shown : IsLeft kind (shown_of old) (synced_of old) (unsynced_of old) (shown_of new)
  pub fresh : history_of new ≡ []
  pub unwritten : writes_of new ≡ 0
