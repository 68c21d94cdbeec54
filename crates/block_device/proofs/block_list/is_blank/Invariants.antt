-- The greatest of the bytes so far is no less than each, and no more than those of a blank.
use Rattle.std.proofs.Common.{◌≡◌, ◌<◌, ◌≤◌, ℕ, get_or}
use Rattle.block_device.specs.Blank.{blank}
use Rattle.block_device.proofs.block_list.is_blank.Given as goal

abbrev pub invariant-bytes : goal.invariant-bytes
invariant-bytes l = ((k : ℕ) → k < l.at → get_or l.bytes k 0 ≤ l.greatest)
    × (l.bytes ≡ blank → l.greatest ≡ 0)
