-- What a stop leaves within a clean end (our format, docs/FORMAT.md, "The journal", "Files").
use Rattle.std.specs.Prelude.{◌≡◌, ◌⊎◌}
use Rattle.block_device.specs.Device.{Blocks, Torn}
use Rattle.journaled_file.specs.Judged.{HasEnded}
use Rattle.marked_pair.specs.Mark.{IsMarked}

-- what a stop left before, or the base as it is read, beside such a journal with its end torn
abbrev pub EndTorn : (Blocks → Blocks → Type 0) → Blocks → Blocks → Blocks → Type 0
EndTorn outcomes base a e = outcomes a e ⊎ ((a ≡ base) × (d : Blocks) × outcomes a d × Torn 1 d e)

-- what a stop left before, with the gate of the base torn
abbrev pub GateTorn : (Blocks → Blocks → Type 0) → Blocks → Blocks → Type 0
GateTorn outcomes a e = (d : Blocks) × outcomes d e × Torn 0 d a

-- The journal's end is of the base, which is as it was but for its gate.
pub record IsEnding (base a e : Blocks) : Type 0 where
  pub gate : Torn 0 base a
  pub end : HasEnded base e

-- what a stop left before, with the journal's end torn, or what it leaves of a base that is ending
abbrev pub LeavesEnding : (Blocks → Blocks → Type 0) → Blocks → Blocks → Blocks → Type 0
LeavesEnding outcomes base a e = EndTorn outcomes base a e ⊎ IsEnding base a e

-- both as they are read
abbrev pub AreRead : Blocks → Blocks → Blocks → Blocks → Type 0
AreRead base journal a e = (a ≡ base) × (e ≡ journal)

-- What a stop left before; or both as they were read, but for the end of the journal of a base that has the mark,
-- or for the gate of a base whose end is there.
abbrev pub LeavesFinishing : (Blocks → Blocks → Type 0) → Blocks → Blocks → Blocks → Blocks → Type 0
LeavesFinishing outcomes base journal a e =
    outcomes a e ⊎ (IsMarked base × EndTorn (AreRead base journal) base a e) ⊎ IsEnding base a e
