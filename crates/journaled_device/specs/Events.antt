-- The writes and syncs of a journaled device, noted by the pair as it was before each of them (our disk
-- model, docs/FORMAT.md, "The disk model of a stop").
use Rattle.std.specs.Prelude.{◌≡◌, ◌≤◌, ◌+◌, ℕ, suc, nat_lt, if◌then◌else◌, List, [], ◌∷◌, length, Option}
use Rattle.std.specs.Prelude.{Some, None}
use Rattle.std.specs.List.{All}
use Rattle.block_device.specs.Device.{Blocks, IsBlock, block_at}
use Rattle.block_device.specs.History.{Event, Synced, Wrote, IsHistory, unsynced}
use Rattle.page_file.specs.Opening.{failed_check}
use Rattle.logged_pair.specs.Standing.{commits_of, pair_of, shown_of}
use Rattle.logged_pair.specs.declared.pair.LoggedPair.{LoggedPair}

-- what a note says of blocks that were read so before: the number of the one that was written, or none for a
-- sync
abbrev pub event : Blocks → Option ℕ → Event
event blocks None = Synced
event blocks (Some i) = Wrote i (if nat_lt i (length blocks) then Some (block_at i blocks) else None)

-- the events of these notes, the newest first
abbrev pub events : {P A : Type 0} {m : _} → List (LoggedPair P A m × Option ℕ) → List Event
events [] = []
events (n ∷ ns) = event (shown_of n.0) n.1 ∷ events ns

-- the pair's moments before them
abbrev pub moments : {P A : Type 0} {m : _} → List (LoggedPair P A m × Option ℕ) → List ℕ
moments [] = []
moments {m = m} (n ∷ ns) = m.moment (pair_of n.0) ∷ moments ns

-- each of these moments is at most the one after it, and the newest at most this one
abbrev pub Fall : ℕ → List ℕ → Type 0
Fall now [] = Unit {0}
Fall now (t ∷ ts) = (t ≤ now) × Fall t ts

-- How many events there were before moment t of the device, at which each of them is one moment more than at
-- the pair.
abbrev pub events_until : List ℕ → ℕ → ℕ
events_until [] t = 0
events_until (p ∷ ps) t = if nat_lt (p + length ps) t then suc (length ps) else events_until ps t

-- what stands of a pair with these notes, where it is honest
pub record IsNoted {P A : Type 0} {m : _} (d : LoggedPair P A m)
    (ns : List (LoggedPair P A m × Option ℕ)) : Type 0 where
  pub whole : All IsBlock (shown_of d)
  pub leads : IsHistory (shown_of d) (events ns)
  pub falls : Fall (m.moment (pair_of d)) (moments ns)
  -- where all is synced and opening takes what is read, that is the one commit
  pub durable : unsynced (events ns) ≡ [] → failed_check (shown_of d) ≡ None → (k : Blocks) → commits_of d k
      → k ≡ shown_of d
