-- The log of a device in memory as its contracts see it (our rule, `Log`).
use Rattle.std.specs.Prelude.{ℕ, List, [], ◌∷◌, set}
use Rattle.block_device.specs.Device.{Blocks}

-- the first write of a block since the last sync, and what the block held then
pub record Write : Type 0 where
  pub at : ℕ
  pub old : List ℕ

-- the writes of these blocks, which held these bytes
abbrev pub writes_in : List ℕ → Blocks → List Write
writes_in [] olds = []
writes_in (n ∷ ns) [] = []
writes_in (n ∷ ns) (old ∷ olds) = record { at = n; old = old } ∷ writes_in ns olds

-- the blocks with what these writes replaced
abbrev pub restored : List Write → Blocks → Blocks
restored [] blocks = blocks
restored (w ∷ ws) blocks = restored ws (set blocks w.at w.old)
