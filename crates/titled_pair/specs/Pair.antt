-- A pair whose journal has a title, as its contracts see it.
use Rattle.std.specs.Prelude.{ℕ, List}
use Rattle.block_device.specs.Device.{Blocks}
use Rattle.titled_pair.specs.Title.{untitled}
use Rattle.titled_pair.specs.Titled.{Untitled}
use Rattle.titled_pair.specs.declared.pair.TitledPair.{TitledPair}

-- its pair
abbrev pub pair_of : {P : Type 0} {m : _} → TitledPair P m → P
pair_of d = d.pair

-- the pair keeps its contract
abbrev pub IsHonest : {P : Type 0} {m : _} → TitledPair P m → Type 0
IsHonest {m = m} d = m.honest d.pair

-- the journal behind its title
abbrev pub journal_of : {P : Type 0} {m : _} → TitledPair P m → Blocks
journal_of {m = m} d = untitled (m.journal d.pair)

-- what a stop now may leave, and what one since a moment might have left
abbrev pub may_leave_of : {P : Type 0} {m : _} → TitledPair P m → Blocks → Blocks → Type 0
may_leave_of {m = m} d = Untitled (m.may_leave d.pair)

abbrev pub left_since_of : {P : Type 0} {m : _} → TitledPair P m → ℕ → Blocks → Blocks → Type 0
left_since_of {m = m} d t = Untitled (m.left_since d.pair t)

-- the pair as it was taken over, beside how many blocks its base had
abbrev pub first_of : {P : Type 0} {m : _} → TitledPair P m → List (P × ℕ)
first_of d = d.first.taken
