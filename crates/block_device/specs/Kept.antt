-- What a device in memory keeps beside its blocks, from which a stop can undo or fill what was written
-- since the last sync (our rule, `MemoryDevice`).
use Rattle.std.specs.Prelude.{◌≡◌, ◌<◌, ℕ, Bool, true, false, ◌||◌, if◌then◌else◌, nat_eq, List, [], ◌∷◌}
use Rattle.std.specs.Prelude.{◌++◌, length, take, replicate, slice_index_or, set}
use Rattle.std.specs.List.{All}
use Rattle.block_device.specs.declared.left.Left.{Left}
use Rattle.block_device.specs.declared.left.Left.TheVariants as left
use Rattle.block_device.specs.Device.{Blocks, IsBlock, block_at}
use Rattle.block_device.specs.History.{Event, IsHistory, at_sync, unsynced}
use Rattle.block_device.specs.Logged.{Write, restored}

-- whether k is one of these numbers
abbrev pub is_in : ℕ → List ℕ → Bool
is_in k [] = false
is_in k (n ∷ ns) = nat_eq k n || is_in k ns

-- whether the log has block k
abbrev pub is_logged : ℕ → List Write → Bool
is_logged k [] = false
is_logged k (w ∷ ws) = nat_eq k w.at || is_logged k ws

-- the write tells what its block held at the last sync
abbrev pub IsOld : Blocks → Write → Type 0
IsOld synced w = (w.at < length synced) × (w.old ≡ block_at w.at synced)

-- A mark for each block that was written since the last sync, and for those of them that were there
-- then, what they held.
pub record IsKept (blocks : Blocks) (marks : List Bool) (log : List Write) (synced : ℕ)
    (es : List Event) : Type 0 where
  pub whole : All IsBlock blocks
  pub leads : IsHistory blocks es
  pub as_many : length marks ≡ length blocks
  pub marked : (k : ℕ) → k < length blocks → slice_index_or marks k false ≡ is_in k (unsynced es)
  pub synced_is : synced ≡ length (at_sync blocks es)
  pub logged : (k : ℕ) → k < synced → is_in k (unsynced es) ≡ true → is_logged k log ≡ true
  pub old : All (IsOld (at_sync blocks es)) log

-- Marks and log before a write of block i, which holds these bytes. A block that has no mark was there
-- at the last sync.
pub record Keeps (i : ℕ) (bytes : List ℕ) (marks : List Bool) (log : List Write) (marks' : List Bool)
    (log' : List Write) : Type 0 where
  pub marked : marks' ≡ set marks i true
  pub logged : log'
      ≡ (if slice_index_or marks i false then log else log ++ record { at = i; old = bytes } ∷ [])

-- the new blocks have these bytes where there is a mark, and are the old ones elsewhere
pub record FillsMarked (bytes : List ℕ) (marks : List Bool) (old new : Blocks) : Type 0 where
  pub as_many : length new ≡ length old
  pub there : (k : ℕ) → k < length old → slice_index_or marks k false ≡ true → block_at k new ≡ bytes
  pub others : (k : ℕ) → slice_index_or marks k false ≡ false → block_at k new ≡ block_at k old

-- what a stop of this kind leaves, by the marks and the log
abbrev pub IsLeftFrom : Left → List Bool → List Write → ℕ → Blocks → Blocks → Type 0
IsLeftFrom left.Written marks log synced old new = new ≡ old
IsLeftFrom left.Synced marks log synced old new = new ≡ take synced (restored log old)
IsLeftFrom (left.Filled byte) marks log synced old new = FillsMarked (replicate 4096 byte) marks old new
