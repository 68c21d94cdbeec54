-- A word of the laws of the device model.
use Rattle.block_device.specs.Device.{Blocks}

-- first one step, and then another
abbrev pub Both : (Blocks → Blocks → Type 0) → (Blocks → Blocks → Type 0) → Blocks → Blocks → Type 0
Both first second old new = (d : Blocks) × first old d × second d new
