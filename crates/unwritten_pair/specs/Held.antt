-- What is read of a pair some of whose journal is in memory.
use Rattle.std.specs.Prelude.{◌≡◌, ◌++◌, ℕ, List, Vec}
use Rattle.block_device.specs.Device.{Blocks}

-- the pair's base
abbrev pub HasBase : {P : Type 0} → Blocks → P → Blocks → Type 0
HasBase base p a = a ≡ base

-- the pair's journal, and behind it the blocks in memory
abbrev pub HasJournal : {A : Type 0} → Blocks → Vec (List ℕ) A → Blocks → Type 0
HasJournal own behind b = b ≡ own ++ behind.items
