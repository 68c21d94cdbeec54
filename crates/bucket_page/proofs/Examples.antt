-- Worked examples of what the tests do not reach: the list that a page spells by the definitions alone, which
-- bytes are named, and what a bucket has. No other proof rests on them.
use Rattle.std.proofs.Common.{◌≡◌, ℕ, ◌⊎◌, List, [], ◌∷◌, ◌++◌, replicate, Some, None, refl, pos, negsuc, map}
use Rattle.std.proofs.Common.{arith, inl, inr}
use Rattle.block_bytes.specs.Places.{first_places}
use Rattle.block_bytes.specs.Numbers.{number_at, signed_at}
use Rattle.box_math.specs.Bounds.{Bounds, ordered_test}
use Rattle.box_bytes.specs.Corners.{corner_at}
use Rattle.bucket_page.specs.Layout.{Entry, IsBucket, IsNamed, entry_place, entry_size, object_in, tag_in}
use Rattle.bucket_page.specs.Layout.{bucket_test, bucket_at}

-- one object in two dimensions, its identifier 1, its box (-1,2) to (3,4) and its tag 258, and 7 in the
-- places that are not named
abbrev head : ℕ → ℕ → ℕ → List ℕ
head kind dims count = kind ∷ dims ∷ 0 ∷ count ∷ 10 ∷ 11 ∷ 12 ∷ 13 ∷ []

abbrev entry : List ℕ
entry = 0 ∷ 0 ∷ 0 ∷ 0 ∷ 0 ∷ 0 ∷ 0 ∷ 1 ∷ 255 ∷ 255 ∷ 255 ∷ 255 ∷ 0 ∷ 0 ∷ 0 ∷ 2 ∷ 0 ∷ 0 ∷ 0 ∷ 3 ∷ 0 ∷ 0 ∷ 0 ∷ 4
    ∷ 0 ∷ 0 ∷ 1 ∷ 2 ∷ []

abbrev page_of : ℕ → ℕ → ℕ → List ℕ
page_of kind dims count = head kind dims count ++ replicate 8 7 ++ entry ++ replicate 40 7

abbrev bounds : Bounds
bounds = record { low = negsuc 0 ∷ pos 2 ∷ []; high = pos 3 ∷ pos 4 ∷ [] }

abbrev object : Entry
object = (1, (bounds, 258))

a_page_of_one : bucket_at 2 (page_of 7 2 1) ≡ Some (record { next = 168496141; entries = object ∷ [] })
unfolding bucket_at bucket_test first_places object_in tag_in entry_place entry_size corner_at signed_at
    number_at ordered_test
a_page_of_one = refl

-- the same page of format 1, where the tag's bytes are not read
an_old_page_of_one : bucket_at 2 (page_of 4 2 1) ≡ Some
    (record { next = 168496141; entries = (1, (bounds, 0)) ∷ [] })
unfolding bucket_at bucket_test first_places object_in tag_in entry_place entry_size corner_at signed_at
    number_at ordered_test
an_old_page_of_one = refl

-- a node's page, another dimension, no object and too many
other_heads_spell_none : map (bucket_at 2)
    (page_of 6 2 1 ∷ page_of 7 3 1 ∷ page_of 7 2 0 ∷ page_of 7 2 101 ∷ []) ≡ None ∷ None ∷ None ∷ None ∷ []
unfolding bucket_at bucket_test first_places object_in tag_in entry_place entry_size corner_at signed_at
    number_at ordered_test
other_heads_spell_none = refl

-- lows of 0 and highs of -1
a_turned_box_spells_none : bucket_at 2
    (head 7 2 1 ++ replicate 16 0 ++ replicate 8 0 ++ replicate 8 255 ++ replicate 4 0) ≡ None
unfolding bucket_at bucket_test first_places object_in tag_in entry_place entry_size corner_at signed_at
    number_at ordered_test
a_turned_box_spells_none = refl

-- ---- where entries are

entries_have_tags_or_not : map (entry_size 2) (7 ∷ 4 ∷ [])
    ++ map (entry_size 3) (7 ∷ 4 ∷ []) ≡ 28 ∷ 24 ∷ 36 ∷ 32 ∷ []
unfolding entry_size
entries_have_tags_or_not = refl

entries_begin_at_their_places : map (entry_place 28) (0 ∷ 1 ∷ 99 ∷ 100 ∷ [])
    ++ map (entry_place 36) (0 ∷ 1 ∷ 99 ∷ 100 ∷ []) ++ map (entry_place 32) (0 ∷ 1 ∷ 100 ∷ [])
    ≡ 16 ∷ 44 ∷ 2788 ∷ 2816 ∷ 16 ∷ 52 ∷ 3580 ∷ 3616 ∷ 16 ∷ 48 ∷ 3216 ∷ []
unfolding entry_place
entries_begin_at_their_places = refl

-- ---- which bytes are named

head_and_entries_are_named : IsNamed 28 1 0 × IsNamed 28 1 7 × IsNamed 28 1 16 × IsNamed 28 1 43
    × IsNamed 36 100 3615
unfolding entry_place
head_and_entries_are_named = (
  inl (omega arith),
  inl (omega arith),
  inr (omega arith, omega arith),
  inr (omega arith, omega arith),
  inr (omega arith, omega arith),
)

bytes_behind_the_head_are_not_named : IsNamed 28 1 8 ⊎ IsNamed 28 1 15 → ⊥
unfolding entry_place
bytes_behind_the_head_are_not_named (inl (inl h)) = absurd (omega arith)
bytes_behind_the_head_are_not_named (inl (inr h)) = let ge = h.0 in absurd (omega arith)
bytes_behind_the_head_are_not_named (inr (inl h)) = absurd (omega arith)
bytes_behind_the_head_are_not_named (inr (inr h)) = let ge = h.0 in absurd (omega arith)

bytes_behind_the_entries_are_not_named : IsNamed 28 1 44 ⊎ IsNamed 36 100 3616 → ⊥
unfolding entry_place
bytes_behind_the_entries_are_not_named (inl (inl h)) = absurd (omega arith)
bytes_behind_the_entries_are_not_named (inl (inr h)) = let lt = h.1 in absurd (omega arith)
bytes_behind_the_entries_are_not_named (inr (inl h)) = absurd (omega arith)
bytes_behind_the_entries_are_not_named (inr (inr h)) = let lt = h.1 in absurd (omega arith)

-- ---- what a bucket has

no_objects_are_no_bucket : IsBucket 2 (record { next = 0; entries = [] }) → ⊥
no_objects_are_no_bucket h = let some = h.some in absurd (omega arith)

a_hundred_and_one_objects_are_no_bucket : IsBucket 2 (record { next = 0; entries = replicate 101 object }) → ⊥
a_hundred_and_one_objects_are_no_bucket h = let few = h.few in absurd (omega arith)

a_turned_box_is_in_no_bucket : IsBucket 2
    (record {
      next = 0;
      entries = (1, (record { low = pos 3 ∷ pos 4 ∷ []; high = negsuc 0 ∷ pos 2 ∷ [] }, 258)) ∷ [];
    }) → ⊥
a_turned_box_is_in_no_bucket h =
    let span = (h.boxes 0 object (omega arith)).spans 0 (omega arith) in
    let ordered = span.ordered in absurd (omega arith)
