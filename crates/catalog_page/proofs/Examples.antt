-- Worked examples of what the tests do not reach: the list that a page spells by the definitions alone, which
-- bytes are named, and what a catalog has. No other proof rests on them.
use Rattle.std.proofs.Common.{◌≡◌, ℕ, zero, suc, ◌-◌, ◌⊎◌, List, [], ◌∷◌, ◌++◌, replicate, Some, None, refl}
use Rattle.std.proofs.Common.{map, arith, inl, inr}
use Rattle.block_bytes.specs.Places.{first_places}
use Rattle.block_bytes.specs.Numbers.{number_at}
use Rattle.catalog_page.specs.Layout.{Record, IsRecord, IsCatalog, IsOfRecord, IsNamed, record_from}
use Rattle.catalog_page.specs.Layout.{record_place, catalog_test, records_at}

-- a record's numbers, each byte of them another
abbrev numbers : List ℕ
numbers = 128 ∷ 129 ∷ 130 ∷ 1 ∷ 2 ∷ 3 ∷ 4 ∷ 5 ∷ 6 ∷ 7 ∷ 8 ∷ 9 ∷ 10 ∷ 11 ∷ 12 ∷ 13 ∷ 14 ∷ 15 ∷ 16 ∷ []

-- the page of one layer, whose name has so many bytes of 97, with other bytes in the places that are not
-- named
abbrev page_of : ℕ → ℕ → ℕ → List ℕ
page_of kind count long = kind ∷ count ∷ replicate 254 7 ++ long ∷ replicate long 97
    ++ replicate (24 - long) 7 ++ numbers ++ replicate 20 7

abbrev layer : ℕ → Record
layer long =
    record {
      name = replicate long 97;
      dims = 128;
      fanout = 129;
      level = 130;
      root = 16909060;
      ids_root = 84281096;
      count = 651345242494996240;
    }

pages_of_one : map records_at (page_of 1 1 1 ∷ page_of 1 1 24 ∷ page_of 1 0 1 ∷ []) ≡ Some
    (layer 1 ∷ []) ∷ Some (layer 24 ∷ []) ∷ Some [] ∷ []
unfolding records_at catalog_test first_places record_from number_at
pages_of_one = refl

others_spell_none : map records_at
    (page_of 4 1 1 ∷ page_of 1 1 0 ∷ page_of 1 1 25 ∷ page_of 1 2 1 ∷ []) ≡ None ∷ None ∷ None ∷ None ∷ []
unfolding records_at catalog_test first_places record_from number_at
others_spell_none = refl

records_begin_at_their_places : map record_place (0 ∷ 1 ∷ 59 ∷ []) ≡ 256 ∷ 320 ∷ 4032 ∷ []
records_begin_at_their_places = refl

-- ---- which bytes are named

name_and_numbers_are_named : IsOfRecord 1 256 256 × IsOfRecord 1 256 257 × IsOfRecord 1 256 281
    × IsOfRecord 1 256 299
name_and_numbers_are_named = (
  inl (omega arith, omega arith),
  inl (omega arith, omega arith),
  inr (omega arith, omega arith),
  inr (omega arith, omega arith),
)

bytes_behind_the_name_are_not_named : IsOfRecord 1 256 258 ⊎ IsOfRecord 1 256 280 → ⊥
bytes_behind_the_name_are_not_named (inl (inl h)) = let lt = h.1 in absurd (omega arith)
bytes_behind_the_name_are_not_named (inl (inr h)) = let ge = h.0 in absurd (omega arith)
bytes_behind_the_name_are_not_named (inr (inl h)) = let lt = h.1 in absurd (omega arith)
bytes_behind_the_name_are_not_named (inr (inr h)) = let ge = h.0 in absurd (omega arith)

bytes_behind_the_numbers_are_not_named : IsOfRecord 1 256 300 → ⊥
bytes_behind_the_numbers_are_not_named (inl h) = let lt = h.1 in absurd (omega arith)
bytes_behind_the_numbers_are_not_named (inr h) = let lt = h.1 in absurd (omega arith)

-- of a page with so many records, each with a name of one byte
bytes_behind_the_head_are_not_named : (page : List ℕ)
    → ((place : ℕ) → number_at 1 (record_place place) page ≡ 1) → IsNamed page 2 ⊎ IsNamed page 255 → ⊥
bytes_behind_the_head_are_not_named page names (inl (inl h)) = absurd (omega arith)
bytes_behind_the_head_are_not_named page names (inl (inr (place, lt, inl h))) = let ge = h.0 in
    absurd (omega arith)
bytes_behind_the_head_are_not_named page names (inl (inr (place, lt, inr h))) = let ge = h.0 in
    absurd (omega arith)
bytes_behind_the_head_are_not_named page names (inr (inl h)) = absurd (omega arith)
bytes_behind_the_head_are_not_named page names (inr (inr (place, lt, inl h))) = let ge = h.0 in
    absurd (omega arith)
bytes_behind_the_head_are_not_named page names (inr (inr (place, lt, inr h))) = let ge = h.0 in
    absurd (omega arith)

a_record_above_the_count_is_not_named : (page : List ℕ) → number_at 1 1 page ≡ 1 → number_at 1 256 page ≡ 24
    → IsNamed page 320 → ⊥
a_record_above_the_count_is_not_named page one long (inl h) = absurd (omega arith)
a_record_above_the_count_is_not_named page one long (inr (zero, lt, inl h)) = let to = h.1 in
    absurd (omega arith)
a_record_above_the_count_is_not_named page one long (inr (suc place, lt, inl h)) = absurd (omega arith)
a_record_above_the_count_is_not_named page one long (inr (place, lt, inr h)) = let to = h.1 in
    let from = h.0 in absurd (omega arith)

-- ---- what a catalog has

a_name_has_at_most_24_bytes : IsRecord (layer 25) → ⊥
a_name_has_at_most_24_bytes h = let short = h.named.short in absurd (omega arith)

a_name_has_a_byte : IsRecord (layer 0) → ⊥
a_name_has_a_byte h = let some = h.named.some in absurd (omega arith)

a_catalog_has_at_most_60_layers : IsCatalog (replicate 61 (layer 1)) → ⊥
a_catalog_has_at_most_60_layers h = let few = h.few in absurd (omega arith)
