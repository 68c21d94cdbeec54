-- What is read of a base and its journal once they are opened, and what a stop within that leaves (our
-- format, docs/FORMAT.md, "The journal", "Files").
use Rattle.std.specs.Prelude.{◌≡◌, ◌⊎◌}
use Rattle.block_device.specs.Device.{Blocks}
use Rattle.committed_log.specs.Log.{recovered}
use Rattle.marked_pair.specs.Mark.{unmarked}
use Rattle.titled_pair.specs.Title.{untitled}

-- what recovery makes of a base, a gate with the mark as a shut one, and of a journal behind its title
abbrev pub read_of : Blocks → Blocks → Blocks
read_of a e = recovered (unmarked a) (untitled e)

-- one of these outcomes, but for the mark and the title
abbrev pub ShownAs : (Blocks → Blocks → Type 0) → Blocks → Blocks → Type 0
ShownAs outcomes a e = (c d : Blocks) × outcomes c d × (unmarked a ≡ unmarked c) × (untitled e ≡ untitled d)

-- one of these outcomes, or what is read as these blocks
abbrev pub LeavesRead : (Blocks → Blocks → Type 0) → Blocks → Blocks → Blocks → Type 0
LeavesRead outcomes blocks a e = ShownAs outcomes a e ⊎ (read_of a e ≡ blocks)
