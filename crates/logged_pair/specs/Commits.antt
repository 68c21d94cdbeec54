-- The words of commits, as sets of blocks.
use Rattle.std.specs.Prelude.{◌≡◌, ◌⊎◌, None}
use Rattle.block_device.specs.Device.{Blocks}
use Rattle.page_file.specs.Opening.{failed_check}

-- one of these commits, or this one
abbrev pub OrNew : (Blocks → Type 0) → Blocks → Blocks → Type 0
OrNew commits blocks kept = commits kept ⊎ (kept ≡ blocks)

-- a commit of one or of the other
abbrev pub Either : (Blocks → Type 0) → (Blocks → Type 0) → Blocks → Type 0
Either old new kept = old kept ⊎ new kept

-- each new commit is an old one
abbrev pub CommitsNoMore : (Blocks → Type 0) → (Blocks → Type 0) → Type 0
CommitsNoMore old new = (kept : Blocks) → new kept → old kept

-- one of these commits, or these blocks, where opening takes them
abbrev pub OrOpened : (Blocks → Type 0) → Blocks → Blocks → Type 0
OrOpened commits blocks kept = commits kept ⊎ ((failed_check blocks ≡ None) × (kept ≡ blocks))
