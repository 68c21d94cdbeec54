-- The writes and syncs of a device in memory, newest first, and what a stop at each moment between
-- them might have left (our disk model, docs/FORMAT.md, "The disk model of a stop").
use Rattle.std.specs.Prelude.{◌≡◌, ◌⊎◌, ◌<◌, ◌≤◌, ◌+◌, ℕ, List, [], ◌∷◌, length, take, set, Option, Some}
use Rattle.std.specs.Prelude.{None}
use Rattle.block_device.specs.Device.{Blocks, IsBlock}
use Rattle.block_device.specs.Noted.{Note}
use Rattle.block_device.specs.Stop.{IsOutcome}

-- Block i was written, which held these bytes before; with None it was appended.
pub data Event : Type 0 where
  Wrote : ℕ → Option (List ℕ) → Event
  Synced : Event

-- what a note says: no number for a sync, the block's for an append, and 0 beside it for a change
abbrev pub event : Note → Event
event ([], bytes) = Synced
event (i ∷ [], bytes) = Wrote i None
event (i ∷ j ∷ more, bytes) = Wrote i (Some bytes)

abbrev pub history : List Note → List Event
history [] = []
history (n ∷ ns) = event n ∷ history ns

-- the blocks before block i was written, which held these bytes or was not there
abbrev pub undone : ℕ → Option (List ℕ) → Blocks → Blocks
undone i (Some old) blocks = set blocks i old
undone i None blocks = take i blocks

-- the blocks before an event
abbrev pub before : Event → Blocks → Blocks
before (Wrote i old) blocks = undone i old blocks
before Synced blocks = blocks

-- a block that was written is there, and is the last one if it was appended
abbrev pub IsThere : ℕ → Option (List ℕ) → Blocks → Type 0
IsThere i (Some old) blocks = (i < length blocks) × IsBlock old
IsThere i None blocks = i + 1 ≡ length blocks

-- these events may have led to the blocks
abbrev pub IsHistory : Blocks → List Event → Type 0
IsHistory blocks [] = Unit {0}
IsHistory blocks (Synced ∷ es) = IsHistory blocks es
IsHistory blocks (Wrote i old ∷ es) = IsThere i old blocks × IsHistory (undone i old blocks) es

-- the blocks as they were at the last sync, or at the beginning
abbrev pub at_sync : Blocks → List Event → Blocks
at_sync blocks [] = blocks
at_sync blocks (Synced ∷ es) = blocks
at_sync blocks (Wrote i old ∷ es) = at_sync (undone i old blocks) es

-- the numbers of the blocks that were written since
abbrev pub unsynced : List Event → List ℕ
unsynced [] = []
unsynced (Synced ∷ es) = []
unsynced (Wrote i old ∷ es) = i ∷ unsynced es

-- what a stop after these events may leave, of blocks that are read so now
abbrev pub MayLeave : Blocks → List Event → Blocks → Type 0
MayLeave blocks es c = IsOutcome blocks (at_sync blocks es) (unsynced es) c

-- what a stop after at least t of these events might have left
abbrev pub LeftSince : Blocks → List Event → ℕ → Blocks → Type 0
LeftSince blocks [] t c = MayLeave blocks [] c
LeftSince blocks (e ∷ es) t c = MayLeave blocks (e ∷ es) c
    ⊎ ((t ≤ length es) × LeftSince (before e blocks) es t c)
