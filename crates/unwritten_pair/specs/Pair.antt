-- A pair of which nothing is written, as its contracts see it.
use Rattle.std.specs.Prelude.{◌≡◌, ◌++◌, ◌≤◌, ◌<◌, ℕ, List, Vec, length, Result, Err, IsErrOf}
use Rattle.block_device.specs.Device.{Blocks}
use Rattle.block_device.specs.Fuse.{faults_with}
use Rattle.block_device.specs.declared.device.DeviceError.{DeviceError}
use Rattle.block_device.specs.declared.device.DeviceError.TheVariants.{Failed}
use Rattle.device_pair.specs.Both.{Both, BothSince}
use Rattle.unwritten_pair.specs.Held.{HasBase, HasJournal}
use Rattle.unwritten_pair.specs.declared.pair.UnwrittenPair.{UnwrittenPair}

-- its pair
abbrev pub pair_of : {P A : Type 0} {m : _} → UnwrittenPair P A m → P
pair_of d = d.pair

-- the pair keeps its contract
abbrev pub IsHonest : {P A : Type 0} {m : _} → UnwrittenPair P A m → Type 0
IsHonest {m = m} d = m.honest d.pair

-- the blocks of the pair: its base and its own journal
abbrev pub base_of : {P A : Type 0} {m : _} → UnwrittenPair P A m → Blocks
base_of {m = m} d = m.base d.pair

abbrev pub own_of : {P A : Type 0} {m : _} → UnwrittenPair P A m → Blocks
own_of {m = m} d = m.journal d.pair

-- the blocks in memory
abbrev pub behind_of : {P A : Type 0} {m : _} → UnwrittenPair P A m → Blocks
behind_of d = d.behind.items

-- the journal as it is read
abbrev pub journal_of : {P A : Type 0} {m : _} → UnwrittenPair P A m → Blocks
journal_of d = own_of d ++ behind_of d

-- how many writes were refused, up to the greatest u64
abbrev pub refusals_of : {P A : Type 0} {m : _} → UnwrittenPair P A m → ℕ
refusals_of d = d.refusals

-- how many calls have answered Failed, up to the greatest u64
abbrev pub faults_of : {P A : Type 0} {m : _} → UnwrittenPair P A m → ℕ
faults_of {m = m} d = faults_with (m.faults d.pair) d.refusals

-- the pair and the blocks in memory before each write of one of these, the newest first
abbrev pub past_of : {P A : Type 0} {m : _} → UnwrittenPair P A m → List (P × Vec (List ℕ) A)
past_of d = d.past.taken

-- how many such writes there were
abbrev pub moment_of : {P A : Type 0} {m : _} → UnwrittenPair P A m → ℕ
moment_of d = length (past_of d)

-- what a stop now may leave, and what one since a moment might have left: what is read then
abbrev pub may_leave_of : {P A : Type 0} {m : _} → UnwrittenPair P A m → Blocks → Blocks → Type 0
may_leave_of d = Both (HasBase (base_of d)) (HasJournal (own_of d)) d.pair d.behind

abbrev pub left_since_of : {P A : Type 0} {m : _} → UnwrittenPair P A m → ℕ → Blocks → Blocks → Type 0
left_since_of d = BothSince (HasBase (base_of d)) (HasJournal (own_of d)) d.pair d.behind (past_of d)

-- the pair as it was taken over, beside how many blocks its journal had
abbrev pub first_of : {P A : Type 0} {m : _} → UnwrittenPair P A m → List (P × ℕ)
first_of d = d.first.taken

-- All is read as it was.
pub record IsSame {P A : Type 0} {m : _} (old new : UnwrittenPair P A m) : Type 0 where
  pub base : base_of new ≡ base_of old
  pub own : own_of new ≡ own_of old
  pub behind : behind_of new ≡ behind_of old

-- A write of the journal leaves the pair. It fails for a block of the pair's own, and for no other.
pub record HasPut {P A : Type 0} {m : _} (old : UnwrittenPair P A m) (i : ℕ)
    (result : Result (Unit {0}) DeviceError) (new : UnwrittenPair P A m) : Type 0 where
  pub pair : pair_of new ≡ pair_of old
  pub own : i < length (own_of old) → result ≡ Err Failed
  pub behind : length (own_of old) ≤ i → IsErrOf result Failed → ⊥
