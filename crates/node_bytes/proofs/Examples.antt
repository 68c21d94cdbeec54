-- Worked examples of what the tests do not reach: the node that a page spells by the definitions alone, also
-- one of format 1, where entries are, which bytes are named, what a node has, and what columns are. No other
-- proof rests on them.
use Rattle.std.proofs.Common.{◌≡◌, ℕ, zero, suc, ◌<◌, ◌≤◌, ◌⊎◌, ℤ, true, false, List, [], ◌∷◌, ◌++◌, get_or}
use Rattle.std.proofs.Common.{replicate, Some, None, refl, pos, negsuc, map, arith, inl, inr}
use Rattle.block_bytes.specs.Places.{first_places}
use Rattle.block_bytes.specs.Numbers.{number_at, signed_at}
use Rattle.box_math.specs.Bounds.{on_axis, ordered_test}
use Rattle.box_bytes.specs.Corners.{corner_at}
use Rattle.node_bytes.specs.Columns.{cell, AreColumns}
use Rattle.tree_node.specs.Nodes.{Item}
use Rattle.node_bytes.specs.Layout.{IsSpellable, IsNode, IsNamed, low_place, high_place, reference_place}
use Rattle.node_bytes.specs.Layout.{tag_place, has_tags, tag_at, item_at, node_test, node_at}

-- one entry in two dimensions, its box (-1,2) to (3,4), and 7 in the places that are not named
abbrev filled_to : ℕ → List ℕ → List ℕ
filled_to n bytes = bytes ++ replicate n 7

abbrev columns_after : List ℕ → List ℕ
columns_after head =
    filled_to 11 head ++ filled_to 396 (255 ∷ 255 ∷ 255 ∷ 255 ∷ []) ++ filled_to 396 (0 ∷ 0 ∷ 0 ∷ 3 ∷ [])
    ++ filled_to 396 (0 ∷ 0 ∷ 0 ∷ 2 ∷ []) ++ filled_to 396 (0 ∷ 0 ∷ 0 ∷ 4 ∷ [])

abbrev page_of : List ℕ → List ℕ → List ℕ
page_of head reference = columns_after head ++ filled_to 40 (0 ∷ 0 ∷ 0 ∷ 0 ∷ reference)

-- the same with the tag 258 in its place
abbrev tagged_page : List ℕ → List ℕ
tagged_page head = columns_after head ++ filled_to 792 (0 ∷ 0 ∷ 0 ∷ 0 ∷ 0 ∷ 0 ∷ 0 ∷ 3 ∷ [])
    ++ 0 ∷ 0 ∷ 1 ∷ 2 ∷ []

abbrev tagged_item : ℕ → ℕ → Item
tagged_item reference tag =
    record {
      bounds = record { low = negsuc 0 ∷ pos 2 ∷ []; high = pos 3 ∷ pos 4 ∷ [] };
      reference = reference;
      tag = tag;
    }

abbrev item : ℕ → Item
item reference = tagged_item reference 0

a_leaf_of_one : node_at 2 (page_of (2 ∷ 2 ∷ 0 ∷ 1 ∷ 0 ∷ []) (0 ∷ 0 ∷ 0 ∷ 1 ∷ [])) ≡ Some
    (record { level = 0; entries = item 1 ∷ [] })
unfolding node_at node_test first_places item_at tag_at has_tags corner_at signed_at number_at ordered_test
a_leaf_of_one = refl

a_node_of_one : node_at 2 (page_of (2 ∷ 2 ∷ 0 ∷ 1 ∷ 255 ∷ []) (127 ∷ 255 ∷ 255 ∷ 255 ∷ [])) ≡ Some
    (record { level = 255; entries = item 2147483647 ∷ [] })
unfolding node_at node_test first_places item_at tag_at has_tags corner_at signed_at number_at ordered_test
a_node_of_one = refl

-- a leaf has tags, but for one of format 1, and a node above the leaves has none
tags_of_leaves : map (λ head. node_at 2 (tagged_page head))
    ((6 ∷ 2 ∷ 0 ∷ 1 ∷ 0 ∷ []) ∷ (2 ∷ 2 ∷ 0 ∷ 1 ∷ 0 ∷ []) ∷ (6 ∷ 2 ∷ 0 ∷ 1 ∷ 1 ∷ []) ∷ [])
    ≡ Some (record { level = 0; entries = tagged_item 3 258 ∷ [] }) ∷ Some
    (record { level = 0; entries = item 3 ∷ [] }) ∷ Some
    (record { level = 1; entries = item 3 ∷ [] }) ∷ []
unfolding node_at node_test first_places item_at tag_at has_tags corner_at signed_at number_at ordered_test
tags_of_leaves = refl

references_to_no_child_spell_none : map (λ reference. node_at 2 (page_of (2 ∷ 2 ∷ 0 ∷ 1 ∷ 1 ∷ []) reference))
    ((0 ∷ 0 ∷ 0 ∷ 2 ∷ []) ∷ (128 ∷ 0 ∷ 0 ∷ 0 ∷ []) ∷ []) ≡ None ∷ None ∷ []
unfolding node_at node_test first_places item_at tag_at has_tags corner_at signed_at number_at ordered_test
references_to_no_child_spell_none = refl

other_heads_spell_none : map (λ head. node_at 2 (page_of head (0 ∷ 0 ∷ 0 ∷ 3 ∷ [])))
    ((4 ∷ 2 ∷ 0 ∷ 1 ∷ 1 ∷ []) ∷ (2 ∷ 3 ∷ 0 ∷ 1 ∷ 1 ∷ []) ∷ (2 ∷ 2 ∷ 0 ∷ 0 ∷ 1 ∷ []) ∷ []) ≡ None ∷ None
    ∷ None ∷ []
unfolding node_at node_test first_places item_at tag_at has_tags corner_at signed_at number_at ordered_test
other_heads_spell_none = refl

an_empty_leaf_and_too_full_ones : map (node_at 2) ((2 ∷ 2 ∷ []) ∷ (2 ∷ 2 ∷ 0 ∷ 101 ∷ []) ∷ []) ≡ Some
    (record { level = 0; entries = [] }) ∷ None ∷ []
unfolding node_at node_test first_places item_at tag_at has_tags corner_at signed_at number_at ordered_test
an_empty_leaf_and_too_full_ones = refl

-- a low of 2 in the place of the lows, and a high of 0
a_turned_box_spells_none : node_at 2 (filled_to 11 (2 ∷ 2 ∷ 0 ∷ 1 ∷ 0 ∷ []) ++ 0 ∷ 0 ∷ 0 ∷ 2 ∷ []) ≡ None
unfolding node_at node_test first_places item_at tag_at has_tags corner_at signed_at number_at ordered_test
a_turned_box_spells_none = refl

-- ---- where entries are

entries_are_in_their_places : map low_place (0 ∷ 1 ∷ 99 ∷ []) ++ map high_place (0 ∷ 1 ∷ 99 ∷ [])
    ++ map (reference_place 2) (0 ∷ 1 ∷ 99 ∷ []) ++ map (reference_place 3) (0 ∷ 1 ∷ 99 ∷ [])
    ++ map (tag_place 2) (0 ∷ 1 ∷ 99 ∷ []) ++ map (tag_place 3) (0 ∷ 1 ∷ 99 ∷ [])
    ≡ 16 ∷ 20 ∷ 412 ∷ 416 ∷ 420 ∷ 812 ∷ 1616 ∷ 1624 ∷ 2408 ∷ 2416 ∷ 2424 ∷ 3208 ∷ 2416 ∷ 2420 ∷ 2812 ∷ 3216
    ∷ 3220 ∷ 3612 ∷ []
entries_are_in_their_places = refl

-- ---- which bytes are named

head_and_entries_are_named : IsNamed 2 true 1 0 × IsNamed 2 true 1 4 × IsNamed 2 true 1 16
    × IsNamed 2 true 1 819 × IsNamed 2 true 1 416 × IsNamed 2 true 1 1219 × IsNamed 2 true 1 1616
    × IsNamed 3 false 100 3215
head_and_entries_are_named = (
  inl (omega arith),
  inl (omega arith),
  inr (0, omega arith, inl (0, omega arith, omega arith, omega arith)),
  inr (0, omega arith, inl (1, omega arith, omega arith, omega arith)),
  inr (0, omega arith, inr (inl (0, omega arith, omega arith, omega arith))),
  inr (0, omega arith, inr (inl (1, omega arith, omega arith, omega arith))),
  inr (0, omega arith, inr (inr (inl (omega arith, omega arith)))),
  inr (99, omega arith, inr (inr (inl (omega arith, omega arith)))),
)

tags_are_named : IsNamed 2 true 1 2416 × IsNamed 2 true 1 2419 × IsNamed 3 true 100 3615
tags_are_named = (
  inr (0, omega arith, inr (inr (inr (refl, omega arith, omega arith)))),
  inr (0, omega arith, inr (inr (inr (refl, omega arith, omega arith)))),
  inr (99, omega arith, inr (inr (inr (refl, omega arith, omega arith)))),
)

-- a byte of no place
abbrev IsBehind : ℕ → ℕ → ℕ → Type 0
IsBehind dims count k = (k < 16) ⊎ (reference_place dims count ≤ k)

behind : (dims count k : ℕ) → 5 ≤ k → count ≤ 100 → IsBehind dims count k → IsNamed dims false count k → ⊥
behind dims count k from few (inl below) (inl lt) = absurd (omega arith)
behind dims count k from few (inl below) (inr (place, lt, inl (axis, ax, le, to))) = absurd (omega arith)
behind dims count k from few (inl below) (inr (place, lt, inr (inl (axis, ax, le, to)))) =
    absurd (omega arith)
behind dims count k from few (inl below) (inr (place, lt, inr (inr (inl (le, to))))) = absurd (omega arith)
behind dims count k from few (inr above) (inl lt) = absurd (omega arith)
behind dims count k from few (inr above) (inr (place, lt, inl (axis, ax, le, to))) = absurd (omega arith)
behind dims count k from few (inr above) (inr (place, lt, inr (inl (axis, ax, le, to)))) =
    absurd (omega arith)
behind dims count k from few (inr above) (inr (place, lt, inr (inr (inl (le, to))))) = absurd (omega arith)
behind dims count k from few either (inr (place, lt, inr (inr (inr (has, le, to))))) = absurd (cc)

-- after the head, and after the references of a page without tags
others_are_not_named : IsNamed 2 false 1 5 ⊎ IsNamed 2 false 1 15 ⊎ IsNamed 2 false 1 1624
    ⊎ IsNamed 2 false 1 2416 ⊎ IsNamed 3 false 100 3216 → ⊥
others_are_not_named (inl h) = behind 2 1 5 (omega arith) (omega arith) (inl (omega arith)) h
others_are_not_named (inr (inl h)) = behind 2 1 15 (omega arith) (omega arith) (inl (omega arith)) h
others_are_not_named (inr (inr (inl h))) = behind 2 1 1624 (omega arith) (omega arith) (inr (omega arith)) h
others_are_not_named (inr (inr (inr (inl h)))) =
    behind 2 1 2416 (omega arith) (omega arith) (inr (omega arith)) h
others_are_not_named (inr (inr (inr (inr h)))) =
    behind 3 100 3216 (omega arith) (omega arith) (inr (omega arith)) h

-- after the entries of a column, and after the tags
places_of_others_are_not_named : IsNamed 2 true 1 20 ⊎ IsNamed 2 true 1 2420 → ⊥
places_of_others_are_not_named (inl h) = between h
  where
    between : IsNamed 2 true 1 20 → ⊥
    between (inl lt) = absurd (omega arith)
    between (inr (place, few, inl (zero, lt, from, to))) = absurd (omega arith)
    between (inr (place, few, inl (suc axis, lt, from, to))) = absurd (omega arith)
    between (inr (place, few, inr (inl (axis, lt, from, to)))) = absurd (omega arith)
    between (inr (place, few, inr (inr (inl (from, to))))) = absurd (omega arith)
    between (inr (place, few, inr (inr (inr (has, from, to))))) = absurd (omega arith)
places_of_others_are_not_named (inr h) = after h
  where
    after : IsNamed 2 true 1 2420 → ⊥
    after (inl lt) = absurd (omega arith)
    after (inr (place, few, inl (axis, lt, from, to))) = absurd (omega arith)
    after (inr (place, few, inr (inl (axis, lt, from, to)))) = absurd (omega arith)
    after (inr (place, few, inr (inr (inl (from, to))))) = absurd (omega arith)
    after (inr (place, few, inr (inr (inr (has, from, to))))) = absurd (omega arith)

-- ---- what a node has

a_leaf_may_be_empty_and_refer_to_any_number : IsSpellable (record { level = 0; entries = [] })
    × IsSpellable (record { level = 0; entries = item 0 ∷ tagged_item 4294967296 4294967295 ∷ [] })
a_leaf_may_be_empty_and_refer_to_any_number = (
  record {
    few = omega arith;
    some = λ above. absurd (omega arith);
    refers = λ k other lt above. absurd (omega arith);
  },
  record {
    few = omega arith;
    some = λ above. absurd (omega arith);
    refers = λ k other lt above. absurd (omega arith);
  },
)

no_entries_are_no_node_above_the_leaves : IsSpellable (record { level = 1; entries = [] }) → ⊥
no_entries_are_no_node_above_the_leaves h = let some = h.some (omega arith) in absurd (omega arith)

a_hundred_and_one_entries_are_too_many : IsSpellable (record { level = 0; entries = replicate 101 (item 3) })
    → ⊥
a_hundred_and_one_entries_are_too_many h = let few = h.few in absurd (omega arith)

the_catalog_is_no_child : IsSpellable (record { level = 1; entries = item 3 ∷ item 2 ∷ [] }) → ⊥
the_catalog_is_no_child h = let refers = h.refers 1 (item 3) (omega arith) (omega arith) in
    let from = refers.0 in absurd (omega arith)

a_child_has_no_tag : IsSpellable (record { level = 1; entries = tagged_item 3 258 ∷ [] }) → ⊥
a_child_has_no_tag h = let refers = h.refers 0 (item 3) (omega arith) (omega arith) in let none = refers.2 in
    absurd (omega arith)

children_are_below_2_to_the_31 : IsSpellable (record { level = 1; entries = item 2147483648 ∷ [] }) → ⊥
children_are_below_2_to_the_31 h = let refers = h.refers 0 (item 3) (omega arith) (omega arith) in
    let to = refers.1 in absurd (omega arith)

a_turned_box_is_in_no_node : IsNode 2
    (record {
      level = 0;
      entries =
          record {
            bounds = record { low = pos 3 ∷ pos 4 ∷ []; high = negsuc 0 ∷ pos 2 ∷ [] };
            reference = 1;
            tag = 0;
          } ∷ [];
    }) → ⊥
a_turned_box_is_in_no_node h =
    let span = (h.boxes 0 (item 1) (omega arith)).spans 0 (omega arith) in
    let ordered = span.ordered in absurd (omega arith)

-- ---- columns

-- the lows (-1,2) and (5,6), and their columns of three places
abbrev points : List (List ℤ)
points = (negsuc 0 ∷ pos 2 ∷ []) ∷ (pos 5 ∷ pos 6 ∷ []) ∷ []

abbrev columns : List (List ℤ)
columns = (negsuc 0 ∷ pos 5 ∷ pos 0 ∷ []) ∷ (pos 2 ∷ pos 6 ∷ pos 0 ∷ []) ∷ []

in_its_place : (axis place : ℕ) → axis < 2 → place < 2
    → cell columns axis place ≡ on_axis (get_or points place []) axis
in_its_place zero zero lt below = refl
in_its_place zero (suc zero) lt below = refl
in_its_place (suc zero) zero lt below = refl
in_its_place (suc zero) (suc zero) lt below = refl
in_its_place zero (suc (suc place)) lt below = absurd (omega arith)
in_its_place (suc zero) (suc (suc place)) lt below = absurd (omega arith)
in_its_place (suc (suc axis)) place lt below = absurd (omega (arith, lt))

zero_behind : (axis place : ℕ) → axis < 2 → 2 ≤ place → cell columns axis place ≡ pos 0
zero_behind axis zero lt above = absurd (omega arith)
zero_behind axis (suc zero) lt above = absurd (omega arith)
zero_behind zero (suc (suc zero)) lt above = refl
zero_behind (suc zero) (suc (suc zero)) lt above = refl
zero_behind zero (suc (suc (suc place))) lt above = refl
zero_behind (suc zero) (suc (suc (suc place))) lt above = refl
zero_behind (suc (suc axis)) (suc (suc place)) lt above = absurd (omega (arith, lt))

two_points_in_columns : AreColumns 2 points columns
two_points_in_columns = record { each = in_its_place; behind = zero_behind }

what_is_behind_the_points_is_zero : AreColumns 2 ((negsuc 0 ∷ pos 2 ∷ []) ∷ [])
    ((negsuc 0 ∷ pos 7 ∷ []) ∷ (pos 2 ∷ pos 0 ∷ []) ∷ []) → ⊥
what_is_behind_the_points_is_zero h = let zero_there : pos 7 ≡ pos 0 =
    h.behind 0 1 (omega arith) (omega arith) in absurd (cc)
