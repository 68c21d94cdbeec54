-- The map from a block to its slot: the slots of one bucket are chained, the last one first.
use Rattle.std.specs.Prelude.{◌≡◌, ◌==◌, ◌<◌, ◌*◌, ◌/◌, ◌%◌, ◌^◌, ℕ, zero, suc, if◌then◌else◌, List}
use Rattle.std.specs.Prelude.{length, slice_index}

-- the bucket of a block among so many
unfoldable pub bucket_in : ℕ → ℕ → ℕ
bucket_in count i = i * 2654435769 % 2 ^ 32 * count / 2 ^ 32

-- one more than the last of the first m slots whose block is in bucket b, or 0
unfoldable pub last_among : (ℕ → ℕ) → ℕ → List ℕ → ℕ → ℕ
last_among bucket b homes zero = 0
last_among bucket b homes (suc m) =
    if bucket (slice_index homes m) == b then suc m else last_among bucket b homes m

-- a bucket leads to its last slot, and a slot to the one before it in its bucket
pub record AreChained (homes before heads : List ℕ) : Type 0 where
  pub few : length homes < 2 ^ 32
  pub few_buckets : length heads < 2 ^ 32
  pub some_bucket : length heads ≡ 0 → length homes ≡ 0
  pub as_many : length before ≡ length homes
  pub heads_are : (b : ℕ) → b < length heads
      → slice_index heads b ≡ last_among (bucket_in (length heads)) b homes (length homes)
  pub before_are : (k : ℕ) → k < length homes
      → slice_index before k ≡ last_among (bucket_in (length heads))
      (bucket_in (length heads) (slice_index homes k)) homes k
