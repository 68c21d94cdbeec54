-- A base with another block 0 than it has.
use Rattle.std.specs.Prelude.{ℕ, List, [], ◌∷◌}
use Rattle.block_device.specs.Device.{Blocks}
use Rattle.page_file.specs.Layout.{gate_block}

-- the blocks with this block 0, where there is one
abbrev pub with_gate : List ℕ → Blocks → Blocks
with_gate gate [] = []
with_gate gate (b ∷ blocks) = gate ∷ blocks

-- the blocks with a shut gate
abbrev pub shut : Blocks → Blocks
shut blocks = with_gate (gate_block 1) blocks
