-- What is read of a log, region after region, over a base of n blocks.
use Rattle.std.specs.Prelude.{◌≡◌, ◌≤◌, ℕ, true, List, length, take}
use Rattle.block_device.specs.Device.{Blocks, block_at}
use Rattle.committed_log.specs.Log.{homes_in, says}
use Rattle.committed_log.specs.Stops.{AreWholeBelow, IsWholeBelow}

-- The first blocks of a log are regions of these homes, each of them whole.
pub record AreRead (n : ℕ) (homes : List ℕ) (b : Blocks) : Type 0 where
  pub there : length homes ≤ length b
  pub regions : homes_in (take (length homes) b) ≡ homes
  pub whole : AreWholeBelow n (take (length homes) b)

-- The first region says that it is committed, and is not whole.
pub record IsBrokenBelow (n : ℕ) (b : Blocks) : Type 0 where
  pub says_so : says (block_at 0 b) ≡ true
  pub not_whole : ¬ IsWholeBelow n b
