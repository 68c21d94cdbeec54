-- The slot of a block: the last one whose home it is.
use Rattle.std.specs.Prelude.{◌≡◌, ◌<◌, ℕ, List, length, slice_index}

pub record IsSlot (homes : List ℕ) (i m : ℕ) : Type 0 where
  pub there : m < length homes
  pub home : slice_index homes m ≡ i
  pub last : (k : ℕ) → m < k → k < length homes → ¬ (slice_index homes k ≡ i)
