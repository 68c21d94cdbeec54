-- What calls leave of a pair.
use Rattle.std.specs.Prelude.{◌≡◌}
use Rattle.block_device.specs.Device.{Blocks}
use Rattle.device_pair.specs.Pairs.{PairLeaves, PairsNoMore}
use Rattle.device_pair.specs.declared.pair.DevicePair as pair

-- Nothing was written, and a stop leaves nothing new.
pub record IsQuiet {P : Type 0} (m : pair.Ghosts P) (old new : P) : Type 0 where
  pub base : m.base new ≡ m.base old
  pub journal : m.journal new ≡ m.journal old
  pub now : PairsNoMore (m.may_leave old) (m.may_leave new)
  pub stops : PairLeaves m.moment m.left_since old new (m.may_leave old)

-- a base that one of these outcomes has, beside any journal
abbrev pub LeavesItsBase : (Blocks → Blocks → Type 0) → Blocks → Blocks → Type 0
LeavesItsBase outcomes a e = (d : Blocks) × outcomes a d
