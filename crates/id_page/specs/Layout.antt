-- The pages of an identifier tree (our format, docs/FORMAT.md), each number with its highest byte first:
--
--     byte    in a fork                                    in a leaf
--     0       8                                            9
--     1       the dimension                                the dimension
-- 2, 3    the count of its children, at most 340       the count of its objects, at most 145 in two axes and
-- 113 in three
--     4       its level, at least 1                        0
--     5..15   0                                            0
-- 16..    for each child 12 bytes: its key (u64)       for each object 28 bytes in two axes and 36 in three:
-- its
-- and its page (u32)                           identifier (u64), its lows and highs (i32 each), its tag (u32)
--
-- All bytes behind the last child or object are zero.
use Rattle.std.specs.Prelude.{◌≡◌, ℕ, ◌<◌, ◌≤◌, ◌⊎◌, List}
use Rattle.block_bytes.specs.Numbers.{number_at}
use Rattle.bucket_page.specs.Layout.{entry_place}

-- the kinds of both pages
abbrev pub fork_kind : ℕ
fork_kind = 8

abbrev pub leaf_kind : ℕ
leaf_kind = 9

-- a byte of the head, of so many bytes, or of one of the first entries of this size
abbrev pub IsNamed : ℕ → ℕ → ℕ → ℕ → Type 0
IsNamed head size count k = (k < head) ⊎ ((16 ≤ k) × (k < entry_place size count))

-- all bytes that a page with such a head and such entries does not name are zero
abbrev pub IsTidy : ℕ → ℕ → List ℕ → Type 0
IsTidy head size page = (k : ℕ) → (IsNamed head size (number_at 2 2 page) k → ⊥) → number_at 1 k page ≡ 0
