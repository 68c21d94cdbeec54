-- What a stop leaves of a base behind a mark, as it is shown.
use Rattle.std.specs.Prelude.{◌≡◌}
use Rattle.block_device.specs.Device.{Blocks}
use Rattle.marked_pair.specs.Mark.{unmarked}

-- these outcomes of a stop, the base as it is shown
abbrev pub Shown : (Blocks → Blocks → Type 0) → Blocks → Blocks → Type 0
Shown outcomes a b = (c : Blocks) × outcomes c b × (a ≡ unmarked c)
