-- A pair in memory as its contracts see it.
use Rattle.std.specs.Prelude.{◌≡◌, List}
use Rattle.block_device.specs.Device.{Blocks}
use Rattle.block_device.specs.History.{Event}
use Rattle.block_device.specs.Memory as device
use Rattle.block_device.specs.declared.memory.MemoryDevice.{MemoryDevice}
use Rattle.device_pair.specs.Both.{Both}
use Rattle.device_pair.specs.declared.two_devices.TwoDevices.{TwoDevices}

-- two devices in memory
abbrev pub MemoryPair : Type 0 → Type 0
MemoryPair X = TwoDevices (MemoryDevice X) (MemoryDevice X)

-- the blocks of base and journal, as reads return them
abbrev pub base_of : {X : Type 0} → MemoryPair X → Blocks
base_of d = device.shown_of d.base

abbrev pub journal_of : {X : Type 0} → MemoryPair X → Blocks
journal_of d = device.shown_of d.journal

-- the writes that answered Ok and the syncs of each, the newest first
abbrev pub base_history_of : {X : Type 0} → MemoryPair X → List Event
base_history_of d = device.history_of d.base

abbrev pub journal_history_of : {X : Type 0} → MemoryPair X → List Event
journal_history_of d = device.history_of d.journal

-- both as they were before each call, the newest first
abbrev pub earlier_of : {X : Type 0} → MemoryPair X → List (MemoryDevice X × MemoryDevice X)
earlier_of d = d.past.taken

-- what a stop now may leave
abbrev pub may_leave_of : {X : Type 0} → MemoryPair X → Blocks → Blocks → Type 0
may_leave_of d a b = Both device.may_leave_of device.may_leave_of d.base d.journal a b

-- a stop leaves both as they are read, and nothing else
abbrev pub AreLeft : Blocks → Blocks → (Blocks → Blocks → Type 0) → Type 0
AreLeft base journal may_leave = (a b : Blocks) → may_leave a b → (a ≡ base) × (b ≡ journal)
