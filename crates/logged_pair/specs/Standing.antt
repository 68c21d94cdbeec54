-- A logged pair as its contracts see it.
use Rattle.std.specs.Prelude.{◌≡◌, ℕ, Bool, List}
use Rattle.block_device.specs.Device.{BeginsOne, Blocks}
use Rattle.device_pair.specs.Pairs.{PairElapses, PairLeaves, PairsNoMore}
use Rattle.committed_log.specs.Committed as regions
use Rattle.committed_log.specs.Log.{recovered}
use Rattle.committed_log.specs.declared.slots.Slots.{Slots}
use Rattle.committed_log.specs.declared.log.CommittedLog.{CommittedLog}
use Rattle.logged_pair.specs.Commits.{CommitsNoMore}
use Rattle.logged_pair.specs.Stages.{CommitsIn, shown_through}
use Rattle.logged_pair.specs.declared.pair.LoggedPair.{LoggedPair}

-- its regions, and its pair
abbrev pub log_of : {P A : Type 0} {m : _} → LoggedPair P A m → CommittedLog P A m
log_of d = d.log

abbrev pub pair_of : {P A : Type 0} {m : _} → LoggedPair P A m → P
pair_of d = regions.pair_of d.log

abbrev pub IsHonest : {P A : Type 0} {m : _} → LoggedPair P A m → Type 0
IsHonest d = regions.IsHonest d.log

-- the base as it is read through the regions that are committed, and the journal behind them
abbrev pub base_of : {P A : Type 0} {m : _} → LoggedPair P A m → Blocks
base_of d = regions.seen_of d.log

abbrev pub journal_of : {P A : Type 0} {m : _} → LoggedPair P A m → Blocks
journal_of d = regions.behind_of d.log

-- what a stop now may leave of them
abbrev pub leaves_of : {P A : Type 0} {m : _} → LoggedPair P A m → Blocks → Blocks → Type 0
leaves_of d a b = regions.leaves_of d.log a b

-- whether it is decided, whether the log is begun anew, how many blocks there were at the last commit, the slots,
-- and their homes
abbrev pub deciding_of : {P A : Type 0} {m : _} → LoggedPair P A m → Bool
deciding_of d = d.deciding

abbrev pub clearing_of : {P A : Type 0} {m : _} → LoggedPair P A m → Bool
clearing_of d = regions.clearing_of d.log

abbrev pub kept_of : {P A : Type 0} {m : _} → LoggedPair P A m → ℕ
kept_of d = d.kept

abbrev pub slots_of : {P A : Type 0} {m : _} → LoggedPair P A m → Slots A
slots_of d = d.slots

abbrev pub homes_of : {P A : Type 0} {m : _} → LoggedPair P A m → List ℕ
homes_of d = d.slots.homes.items

-- the blocks, as a read returns them
abbrev pub shown_of : {P A : Type 0} {m : _} → LoggedPair P A m → Blocks
shown_of d = shown_through (homes_of d) (journal_of d) (base_of d)

-- the commits that a stop now may leave
abbrev pub commits_of : {P A : Type 0} {m : _} → LoggedPair P A m → Blocks → Type 0
commits_of d c = CommitsIn (deciding_of d) (kept_of d) (homes_of d) (base_of d) (journal_of d) c

-- what a stop now may leave, and what one since a moment might have left, once it is recovered
abbrev pub may_leave_of : {P A : Type 0} {m : _} → LoggedPair P A m → Blocks → Type 0
may_leave_of {m = m} d c = (a : Blocks) × (b : Blocks) × m.may_leave (pair_of d) a b × (c ≡ recovered a b)

abbrev pub left_since_of : {P A : Type 0} {m : _} → LoggedPair P A m → ℕ → Blocks → Type 0
left_since_of {m = m} d t c = (a : Blocks) × (b : Blocks) × m.left_since (pair_of d) t a b × (c ≡ recovered a b)

-- A run of calls leaves these commits and no other: now, and at each stop within it, once it is recovered.
pub record KeepsTo {P A : Type 0} {m : _} (commits : Blocks → Type 0) (old new : LoggedPair P A m) : Type
    0 where
  pub now : CommitsNoMore commits (commits_of new)
  pub stops : PairLeaves m.moment m.left_since (pair_of old) (pair_of new)
      (λ a b. BeginsOne commits (recovered a b))

-- no commit has come further, and the same slots
pub record SameSlots {P A : Type 0} {m : _} (old new : LoggedPair P A m) : Type 0 where
  pub deciding : deciding_of new ≡ deciding_of old
  pub clearing : clearing_of new ≡ clearing_of old
  pub kept : kept_of new ≡ kept_of old
  pub homes : homes_of new ≡ homes_of old

-- The regions, the base and the journal are as they were, and nothing was written.
pub record LogStays {P A : Type 0} {m : _} (old new : CommittedLog P A m) : Type 0 where
  pub homes : regions.homes_of new ≡ regions.homes_of old
  pub clearing : regions.clearing_of new ≡ regions.clearing_of old
  pub base : regions.base_of new ≡ regions.base_of old
  pub journal : regions.journal_of new ≡ regions.journal_of old
  pub now : PairsNoMore (m.may_leave (regions.pair_of old)) (m.may_leave (regions.pair_of new))
  pub time : PairElapses (m.moment (regions.pair_of old)) (m.moment (regions.pair_of new))
      (m.left_since (regions.pair_of old)) (m.left_since (regions.pair_of new))
      (m.may_leave (regions.pair_of new))

-- Nothing was written, and no commit has come further.
pub record IsStill {P A : Type 0} {m : _} (old new : LoggedPair P A m) : Type 0 where
  pub slots : SameSlots old new
  pub log : LogStays (log_of old) (log_of new)

-- what a stop now leaves is, once it is recovered, what is read
abbrev pub IsSettled : {P A : Type 0} {m : _} → LoggedPair P A m → Type 0
IsSettled {m = m} d = (a b : Blocks) → m.may_leave (pair_of d) a b → recovered a b ≡ shown_of d
