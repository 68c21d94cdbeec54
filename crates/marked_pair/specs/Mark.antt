-- The mark: the gate's byte from a session's first commit to its clean end (our format, docs/FORMAT.md, "The
-- gate").
use Rattle.std.specs.Prelude.{◌≡◌, ◌<◌, ℕ, Bool, true, ◌&&◌, ◌==◌, if◌then◌else◌, List, [], ◌∷◌, length}
use Rattle.block_device.specs.Device.{Blocks, block_at}
use Rattle.block_bytes.specs.Numbers.{number_at}
use Rattle.page_file.specs.Layout.{gate_block, gate_text}

-- whether a block reads as a gate of this number: 0 open, 1 shut, 2 marked
unfoldable pub reads_as : ℕ → List ℕ → Bool
reads_as n block = number_at 8 0 block == gate_text && number_at 1 8 block == n

-- block 0 as it is shown: a gate with the mark as a shut one
unfoldable pub unmarked_gate : List ℕ → List ℕ
unmarked_gate block = if reads_as 2 block then gate_block 1 else block

-- the blocks as they are shown
abbrev pub unmarked : Blocks → Blocks
unmarked [] = []
unmarked (b ∷ bs) = unmarked_gate b ∷ bs

-- blocks whose gate has the mark
pub record IsMarked (blocks : Blocks) : Type 0 where
  pub there : 0 < length blocks
  pub mark : reads_as 2 (block_at 0 blocks) ≡ true
