-- The index of a region that is to be committed: the home of each slot.
use Rattle.std.specs.Prelude.{◌≡◌, ◌<◌, ◌≤◌, ◌+◌, ◌/◌, ℕ, false, List, length, slice_index}
use Rattle.block_device.specs.Device.{Blocks, block_at}
use Rattle.committed_log.specs.Log.{home_in, index_blocks, says}

-- the homes that stand in the first j index blocks
pub record IsIndexed (j : ℕ) (homes : List ℕ) (b : Blocks) : Type 0 where
  pub room : 2 + length homes + j ≤ length b
  pub there : (k : ℕ) → k < length homes → k / 1024 < j → home_in (length homes) k b ≡ slice_index homes k

abbrev pub HasIndex : List ℕ → Blocks → Type 0
HasIndex homes b = IsIndexed (index_blocks (length homes)) homes b

-- behind the index stand flag and count of the next region, which is not committed
pub record HasNext (homes : List ℕ) (b : Blocks) : Type 0 where
  pub room : 2 + length homes + index_blocks (length homes) + 2 ≤ length b
  pub unsaid : says (block_at (2 + length homes + index_blocks (length homes)) b) ≡ false
