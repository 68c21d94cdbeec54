-- A region that is committed, as it stands behind the others.
use Rattle.std.specs.Prelude.{◌≡◌, ◌<◌, ℕ, true, List, length}
use Rattle.std.specs.List.{All}
use Rattle.block_device.specs.Device.{Blocks}
use Rattle.committed_log.specs.Log.{is_committed, region_homes, region_of, size_of}

-- The first region of b is committed and has slots of these homes, each of a base of n blocks.
pub record HasSlots (slots : List ℕ) (n : ℕ) (b : Blocks) : Type 0 where
  pub committed : is_committed b ≡ true
  pub homes : region_homes b ≡ region_of slots
  pub below : All (λ h. h < n) slots

-- The same, and a block stands behind it.
pub record IsRegion (slots : List ℕ) (n : ℕ) (b : Blocks) : Type 0 where
  pub committed : is_committed b ≡ true
  pub homes : region_homes b ≡ region_of slots
  pub below : All (λ h. h < n) slots
  pub there : size_of b < length b
