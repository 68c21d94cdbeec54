-- Numbers at places of a block, the highest byte first, signed ones in two's complement (our format,
-- docs/FORMAT.md). A block is the list of its bytes.
use Rattle.std.specs.Prelude.{ℕ, ◌+◌, ◌<◌, ◌≤◌, ◌⊎◌, ℤ, List, ◌++◌, take, drop, replicate, slice_index}
use Rattle.std.specs.Int.{w32, cast_signed, cast_unsigned}
use Rattle.byteorder.specs.Endian.{big_number, big_bytes}

-- a block of zeros
unfoldable pub zeros : List ℕ
zeros = replicate 4096 0

-- the number in the n bytes from a place
unfoldable pub number_at : ℕ → ℕ → List ℕ → ℕ
number_at n at block = big_number n (drop at block)

-- the block with a number in the n bytes from a place
unfoldable pub put_number : ℕ → ℕ → ℕ → List ℕ → List ℕ
put_number n at x block = take at block ++ (big_bytes n x ++ drop (at + n) block)

-- the signed number in the four bytes from a place
unfoldable pub signed_at : ℕ → List ℕ → ℤ
signed_at at block = cast_signed w32 (number_at 4 at block)

-- the block with a signed number in the four bytes from a place
unfoldable pub put_signed : ℕ → ℤ → List ℕ → List ℕ
put_signed at z block = put_number 4 at (cast_unsigned w32 z) block

-- the n bytes from one place and the m bytes from the other have none in common
abbrev pub IsApart : ℕ → ℕ → ℕ → ℕ → Type 0
IsApart n at m to = (at + n ≤ to) ⊎ (to + m ≤ at)

-- each of them is a byte
abbrev pub AreBytes : List ℕ → Type 0
AreBytes block = (k : ℕ) → slice_index block k < 256
