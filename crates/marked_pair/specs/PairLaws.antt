-- How many blocks are shown.
use Rattle.std.proofs.Common.{◌≡◌, ◌≤◌, ◌+◌, ◌^◌, length, ap, arith}
use Rattle.block_device.specs.Device.{Blocks}
use Rattle.marked_pair.specs.Mark.{unmarked}
use Rattle.marked_pair.specs.MarkLaws.{length-unmarked}

pub few_blocks_of : (disk : Blocks) {J : Type 0} → (length disk ≤ 2 ^ 31) × J
    → (length (unmarked disk) ≤ 2 ^ 31) × J
few_blocks_of disk few = (omega (arith, length-unmarked disk, few.0), few.1)

pub no_longer_of : (disk journal c a b : Blocks) → a ≡ unmarked c
    → (length c ≤ length disk + 1) × (length b ≤ length journal + 1)
    → (length a ≤ length (unmarked disk) + 1) × (length b ≤ length journal + 1)
no_longer_of disk journal c a b e both =
    (omega (arith, ap length e, length-unmarked c, length-unmarked disk, both.0), both.1)
