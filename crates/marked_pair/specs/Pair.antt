-- A pair behind a mark as its contracts see it.
use Rattle.std.specs.Prelude.{◌≡◌, ℕ, List}
use Rattle.block_device.specs.Device.{Blocks, Torn}
use Rattle.block_device.specs.Fuse.{faults_with}
use Rattle.device_pair.specs.Pairs.{BaseFollows, PairElapses, PairsNoMore}
use Rattle.marked_pair.specs.Mark.{unmarked}
use Rattle.marked_pair.specs.Shown.{Shown}
use Rattle.marked_pair.specs.declared.mark.Mark.{Mark}
use Rattle.marked_pair.specs.declared.pair.MarkedPair.{MarkedPair}

-- its pair
abbrev pub pair_of : {P : Type 0} {m : _} → MarkedPair P m → P
pair_of d = d.pair

-- the pair keeps its contract
abbrev pub IsHonest : {P : Type 0} {m : _} → MarkedPair P m → Type 0
IsHonest {m = m} d = m.honest d.pair

-- the blocks of the base as they are on disk, and as reads return them
abbrev pub disk_of : {P : Type 0} {m : _} → MarkedPair P m → Blocks
disk_of {m = m} d = m.base d.pair

abbrev pub base_of : {P : Type 0} {m : _} → MarkedPair P m → Blocks
base_of d = unmarked (disk_of d)

-- what is known of the mark
abbrev pub mark_of : {P : Type 0} {m : _} → MarkedPair P m → Mark
mark_of d = d.mark

-- how many blocks there were when the pair was taken over
abbrev pub kept_of : {P : Type 0} {m : _} → MarkedPair P m → ℕ
kept_of d = d.kept

-- how many calls were refused here, up to the greatest u64
abbrev pub refusals_of : {P : Type 0} {m : _} → MarkedPair P m → ℕ
refusals_of d = d.refusals

-- how many calls have answered Failed, up to the greatest u64
abbrev pub faults_of : {P : Type 0} {m : _} → MarkedPair P m → ℕ
faults_of {m = m} d = faults_with (m.faults d.pair) d.refusals

-- what a stop now may leave, and what one since a moment might have left, the base as it is shown
abbrev pub may_leave_of : {P : Type 0} {m : _} → MarkedPair P m → Blocks → Blocks → Type 0
may_leave_of {m = m} d = Shown (m.may_leave d.pair)

abbrev pub left_since_of : {P : Type 0} {m : _} → MarkedPair P m → ℕ → Blocks → Blocks → Type 0
left_since_of {m = m} d t = Shown (m.left_since d.pair t)

-- the pair as it was taken over, beside how many blocks there were
abbrev pub first_of : {P : Type 0} {m : _} → MarkedPair P m → List (P × ℕ)
first_of d = d.first.taken

-- No block was written, and a stop leaves nothing new.
pub record IsQuiet {P : Type 0} {m : _} (old new : MarkedPair P m) : Type 0 where
  pub base : m.base new.pair ≡ m.base old.pair
  pub journal : m.journal new.pair ≡ m.journal old.pair
  pub now : PairsNoMore (m.may_leave old.pair) (m.may_leave new.pair)
  pub time : PairElapses (m.moment old.pair) (m.moment new.pair) (m.left_since old.pair)
      (m.left_since new.pair) (m.may_leave new.pair)

-- Block i of the base was written, or torn, and the journal is as it was.
pub record IsTorn {P : Type 0} {m : _} (i : ℕ) (old new : MarkedPair P m) : Type 0 where
  pub journal : m.journal new.pair ≡ m.journal old.pair
  pub stops : BaseFollows (Torn i) (m.may_leave old.pair) (m.may_leave new.pair)
  pub time : PairElapses (m.moment old.pair) (m.moment new.pair) (m.left_since old.pair)
      (m.left_since new.pair) (m.may_leave new.pair)

-- It is of the same pair that was taken over, and no call was refused here.
pub record IsSameHere {P : Type 0} {m : _} (old new : MarkedPair P m) : Type 0 where
  pub kept : kept_of new ≡ kept_of old
  pub first : first_of new ≡ first_of old
  pub refusals : refusals_of new ≡ refusals_of old
