-- What a stop may leave (our disk model, docs/FORMAT.md, "The disk model of a stop").
use Rattle.std.specs.Prelude.{◌≡◌, ◌<◌, ◌≤◌, ℕ, List, length}
use Rattle.std.specs.List.{All, Contains}
use Rattle.block_device.specs.Device.{Blocks, IsBlock, block_at}

-- An outcome of a stop, of blocks that are read so now and were so at the last sync, where those of
-- these numbers were written since: they hold any 4096 bytes, the appended ones may be missing, and each
-- other block is as it is read.
pub record IsOutcome (shown synced : Blocks) (numbers : List ℕ) (c : Blocks) : Type 0 where
  pub no_shorter : length synced ≤ length c
  pub no_longer : length c ≤ length shown
  pub whole : All IsBlock c
  pub others : (k : ℕ) → ¬ Contains numbers k → k < length c → block_at k c ≡ block_at k shown

-- the new blocks have these bytes in each block of these numbers, and are the old ones elsewhere
pub record IsFilled (bytes : List ℕ) (numbers : List ℕ) (old new : Blocks) : Type 0 where
  pub as_many : length new ≡ length old
  pub there : (k : ℕ) → Contains numbers k → k < length old → block_at k new ≡ bytes
  pub others : (k : ℕ) → ¬ Contains numbers k → block_at k new ≡ block_at k old
