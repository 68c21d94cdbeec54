-- A journal that may be missing.
use Rattle.std.specs.Prelude.{Option, Some, None, []}
use Rattle.block_device.specs.Device.{Blocks}

-- its blocks, of which a journal that is missing has none
abbrev pub beside : {J : Type 0} → (J → Blocks) → Option J → Blocks
beside shown None = []
beside shown (Some j) = shown j
