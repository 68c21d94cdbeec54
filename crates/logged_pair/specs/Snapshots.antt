-- What a reader sees beside the writer: the base, through the first regions of the log.
use Rattle.std.specs.Prelude.{◌≡◌, ◌≤◌, ℕ, drop, false, length, take}
use Rattle.block_device.specs.Device.{Blocks}
use Rattle.device_pair.specs.Pairs.{PairLeaves}
use Rattle.committed_log.specs.Committed as regions
use Rattle.committed_log.specs.Log.{homes_in, overlaid, recovered}
use Rattle.committed_log.specs.declared.log.CommittedLog.{CommittedLog}
use Rattle.logged_pair.specs.Standing.{kept_of, log_of, pair_of, shown_of}
use Rattle.logged_pair.specs.declared.pair.LoggedPair.{LoggedPair}

-- what a reader sees who has read the log up to block p, over a base that had n blocks
abbrev pub snapshot : ℕ → ℕ → Blocks → Blocks → Blocks
snapshot p n a b = take n (recovered a (take p b))

-- the same, of base and journal as they are read
abbrev pub seen_by : {P A : Type 0} {m : _} → ℕ → ℕ → CommittedLog P A m → Blocks
seen_by p n c = snapshot p n (regions.base_of c) (regions.journal_of c)

-- how many blocks the regions of the log have: who has read them all sees the last commit
abbrev pub end_of : {P A : Type 0} {m : _} → LoggedPair P A m → ℕ
end_of d = length (regions.homes_of (log_of d))

-- A reader who has read the log up to block p, and looks at the blocks from number s on, sees the same of a and b as
-- of this pair: the blocks of the log, and the base through them.
pub record ShowsFrom {P A : Type 0} {m : _} (s p n : ℕ) (c : CommittedLog P A m) (a b : Blocks) : Type 0 where
  pub log : take p b ≡ take p (regions.journal_of c)
  pub blocks : drop s (snapshot p n a b) ≡ drop s (seen_by p n c)

-- all of it
abbrev pub ShowsSame : {P A : Type 0} {m : _} → ℕ → ℕ → CommittedLog P A m → Blocks → Blocks → Type 0
ShowsSame p n c a b = ShowsFrom 0 p n c a b

-- A committed region ends at block p of the log, the base had n blocks at that commit, or more, and whatever a
-- stop now leaves of both shows the same from block s on.
pub record IsSnapshot {P A : Type 0} {m : _} (s p n kept : ℕ) (c : CommittedLog P A m) : Type 0 where
  pub settled : regions.clearing_of c ≡ false
  pub there : p ≤ length (regions.homes_of c)
  pub ends : length (homes_in (take p (regions.journal_of c))) ≡ p
  pub few : n ≤ kept
  pub stays : (a b : Blocks) → m.may_leave (regions.pair_of c) a b → ShowsFrom s p n c a b

abbrev pub HasSnapshot : {P A : Type 0} {m : _} → ℕ → ℕ → LoggedPair P A m → Type 0
HasSnapshot p n d = IsSnapshot 0 p n (kept_of d) (log_of d)

-- a snapshot but for block 0, the gate, which a reader keeps as it found it
abbrev pub HasSnapshotBehind : {P A : Type 0} {m : _} → ℕ → ℕ → LoggedPair P A m → Type 0
HasSnapshotBehind p n d = IsSnapshot 1 p n (kept_of d) (log_of d)

-- Each snapshot from block s on that there was is there and shows the same, and each moment of the calls between
-- leaves what shows the same.
pub record SnapshotsStay {P A : Type 0} {m : _} (s kept kept' : ℕ) (old new : CommittedLog P A m) : Type 0 where
  pub there : (p n : ℕ) → IsSnapshot s p n kept old → IsSnapshot s p n kept' new
  pub shown : (p n : ℕ) → IsSnapshot s p n kept old
      → ShowsFrom s p n old (regions.base_of new) (regions.journal_of new)
  pub stops : (p n : ℕ) → IsSnapshot s p n kept old → PairLeaves m.moment m.left_since (regions.pair_of old)
      (regions.pair_of new) (ShowsFrom s p n old)

-- whichever block is the first that a reader looks at
abbrev pub KeepsSnapshots : {P A : Type 0} {m : _} → LoggedPair P A m → LoggedPair P A m → Type 0
KeepsSnapshots old new = (s : ℕ) → SnapshotsStay s (kept_of old) (kept_of new) (log_of old) (log_of new)

-- the same of readers who look at block 0 no more
abbrev pub KeepsReaders : {P A : Type 0} {m : _} → LoggedPair P A m → LoggedPair P A m → Type 0
KeepsReaders old new = SnapshotsStay 1 (kept_of old) (kept_of new) (log_of old) (log_of new)

-- The last commit is a snapshot, and is what is read.
abbrev pub ShowsLast : {P A : Type 0} {m : _} → LoggedPair P A m → Type 0
ShowsLast d = HasSnapshot (end_of d) (kept_of d) d × (seen_by (end_of d) (kept_of d) (log_of d) ≡ shown_of d)

-- the last commit is seen of a and b as of this pair: by who reads the regions of the log now, and by who read them
-- before
abbrev pub ShowsLastOf : {P A : Type 0} {m : _} → ℕ → ℕ → CommittedLog P A m → Blocks → Blocks → Type 0
ShowsLastOf p n c a b = (snapshot p n a b ≡ seen_by p n c)
    × (take n (overlaid (regions.homes_of c) b a) ≡ seen_by p n c)

-- Each moment of the calls between leaves what shows the last commit to who has read all regions that there were.
abbrev pub KeepsLast : {P A : Type 0} {m : _} → LoggedPair P A m → LoggedPair P A m → Type 0
KeepsLast {m = m} old new = (p n : ℕ) → HasSnapshot p n old → p ≡ end_of old
    → PairLeaves m.moment m.left_since (pair_of old) (pair_of new) (ShowsLastOf p n (log_of old))

-- Where the log was not begun anew after all, who has read all regions goes on to see the last commit.
abbrev pub LastStays : {P A : Type 0} {m : _} → LoggedPair P A m → LoggedPair P A m → Type 0
LastStays old new = regions.clearing_of (log_of new) ≡ false → (p n : ℕ) → HasSnapshot p n old → p ≡ end_of old
    → HasSnapshot p n new × (seen_by p n (log_of new) ≡ seen_by p n (log_of old))
