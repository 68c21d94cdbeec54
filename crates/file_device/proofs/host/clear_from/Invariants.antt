-- The bytes passed are zero, and those before stay.
use Rattle.std.proofs.Common.{◌≡◌, ◌<◌, ◌≤◌, ℕ, length, slice_index}
use Rattle.file_device.proofs.host.clear_from.Given as goal

abbrev pub invariant-loop-k : goal.invariant-loop-k
invariant-loop-k l = record {
  size : length l.into ≡ 4096;
  before : (j : ℕ) → j < l.«from» → slice_index l.into j ≡ slice_index l.fn.into j;
  after : (j : ℕ) → l.«from» ≤ j → j < l.k → slice_index l.into j ≡ 0;
}
