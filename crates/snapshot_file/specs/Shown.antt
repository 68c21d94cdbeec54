-- What is shown of a base and its journal, of which neither is written (our format, docs/FORMAT.md, "Files").
use Rattle.std.specs.Prelude.{◌≡◌}
use Rattle.block_device.specs.Device.{Blocks}
use Rattle.journaled_file.specs.Judged.{IsJudged}
use Rattle.journaled_file.specs.Opened.{read_of}
use Rattle.journaled_file.specs.declared.judging.Found.{Found}
use Rattle.journaled_file.specs.declared.judging.Found.TheVariants.{Fresh, Own, Unended, Ended, Missing, Foreign}
use Rattle.marked_pair.specs.Mark.{unmarked}
use Rattle.snapshot_file.specs.Gate.{shut}

-- these blocks, by what the journal is to the base: the base as it is, what recovery makes of both, or the base
-- with a shut gate, where that has the mark or whatever it is
abbrev pub IsShownAs : Found → Blocks → Blocks → Blocks → Type 0
IsShownAs Fresh a e c = c ≡ a
IsShownAs Own a e c = c ≡ read_of a e
IsShownAs Unended a e c = c ≡ unmarked a
IsShownAs Ended a e c = c ≡ shut a
IsShownAs Missing a e c = ⊥
IsShownAs Foreign a e c = ⊥

-- the journal is one of these to the base, and these blocks are shown of such a base
abbrev pub IsSnapshot : Blocks → Blocks → Blocks → Type 0
IsSnapshot a e c = (found : Found) × IsJudged found a e × IsShownAs found a e c
