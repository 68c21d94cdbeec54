-- Worked examples of range queries. No other proof rests on them.
use Rattle.std.proofs.Common.{◌≡◌, ℕ, zero, suc, ◌<◌, ◌≤◌, ℤ, Bool, true, false, None, Some, pos, negsuc}
use Rattle.std.proofs.Common.{List, [], ◌∷◌, refl, arith}
use Rattle.std.specs.Prelude.{slice_index_or}
use Rattle.std.proofs.lemmas.List.Sorted.{IsPermutation-middle}
use Rattle.box_math.specs.Bounds.{Bounds, holds_test, meets_test, within_test}
use Rattle.box_math.specs.Objects.{Object}
use Rattle.tree_node.specs.Nodes.{Item}
use Rattle.tree_node.specs.Searches.{admitted, passing_objects}
use Rattle.tree_node.specs.Trees.{end, more, object, child, Tree}
use Rattle.range_query.specs.Entries.{object_of, passing_entries, reference_of, wanted_entries}
use Rattle.box_math.specs.Queries.{admits, seeks}
use Rattle.range_query.specs.Queries.{IsRangeAnswer, having}
use Rattle.box_math.specs.declared.query.Query.TheVariants.{Point}

box : ℤ → ℤ → ℤ → ℤ → Bounds
box x y u v = record { low = x ∷ y ∷ []; high = u ∷ v ∷ [] }

-- a point on an edge is held, and one beside it is not
seeks_a_point : (seeks {D = 2} (Point (pos 1 ∷ pos 1 ∷ [])) (box (pos 0) (pos 0) (pos 1) (pos 1)) ≡ true)
    × (admits {D = 2} (Point (pos 2 ∷ pos 1 ∷ [])) (box (pos 0) (pos 0) (pos 1) (pos 1)) ≡ false)
unfolding box holds_test
seeks_a_point = (refl, refl)

-- ---- entries of a node

entries : List Item
entries =
    record { bounds = box (pos 0) (pos 0) (pos 1) (pos 1); reference = 7; tag = 4 }
    ∷ record { bounds = box (pos 1) (pos 1) (pos 2) (pos 2); reference = 5; tag = 0 }
    ∷ record { bounds = box (pos 3) (pos 3) (pos 3) (pos 3); reference = 6; tag = 4 } ∷ []

-- boxes that touch meet, and pass by position
that_meet : passing_entries (λ b. meets_test 2 b (box (pos 1) (pos 1) (pos 1) (pos 1))) entries
    ≡ record { bounds = box (pos 0) (pos 0) (pos 1) (pos 1); reference = 7; tag = 4 }
    ∷ record { bounds = box (pos 1) (pos 1) (pos 2) (pos 2); reference = 5; tag = 0 } ∷ []
unfolding entries box meets_test
that_meet = refl

of_an_entry : (object_of
    (record { bounds = box (pos 0) (pos 0) (pos 1) (pos 1); reference = 7; tag = 4 })
    ≡ (7, (box (pos 0) (pos 0) (pos 1) (pos 1), 4)))
    × (reference_of (record { bounds = box (pos 0) (pos 0) (pos 1) (pos 1); reference = 7; tag = 4 }) ≡ 7)
of_an_entry = (refl, refl)

-- ---- trees

-- leaves of the points 2 at (1,0) and 1 at (0,0), and of 5 at (10,0) and 3 at (2,0)
tree : Tree
tree = record {
  page = 5;
  level = 1;
  row = more
      (child (box (pos 0) (pos 0) (pos 1) (pos 0)) 3
      (more (object (box (pos 1) (pos 0) (pos 1) (pos 0), 9) 2)
      (more (object (box (pos 0) (pos 0) (pos 0) (pos 0), 0) 1) end)))
      (more (child (box (pos 2) (pos 0) (pos 10) (pos 0)) 4
      (more (object (box (pos 10) (pos 0) (pos 10) (pos 0), 9) 5)
      (more (object (box (pos 2) (pos 0) (pos 2) (pos 0), 9) 3) end))) end);
}

-- a window over both leaves: their objects in the order of the leaves, answered by identifier
all_but_the_last : Bounds → Bool
all_but_the_last b = meets_test 2 b (box (pos 0) (negsuc 0) (pos 9) (pos 1))

three_meet : passing_objects all_but_the_last
    tree.row ≡ (2, (box (pos 1) (pos 0) (pos 1) (pos 0), 9)) ∷ (1, (box (pos 0) (pos 0) (pos 0) (pos 0), 0))
    ∷ (3, (box (pos 2) (pos 0) (pos 2) (pos 0), 9)) ∷ []
unfolding tree box all_but_the_last meets_test
three_meet = refl

-- of these only those that have the tag, and all where none is asked for
with_a_tag : (having (Some 9)
    (passing_objects all_but_the_last tree.row) ≡ (2, (box (pos 1) (pos 0) (pos 1) (pos 0), 9))
    ∷ (3, (box (pos 2) (pos 0) (pos 2) (pos 0), 9)) ∷ [])
    × (having None (passing_objects all_but_the_last tree.row) ≡ passing_objects all_but_the_last tree.row)
unfolding tree box all_but_the_last meets_test
with_a_tag = (refl, refl)

one_of_three : wanted_entries (λ b. meets_test 2 b (box (pos 1) (pos 1) (pos 1) (pos 1))) (Some 4)
    entries ≡ record { bounds = box (pos 0) (pos 0) (pos 1) (pos 1); reference = 7; tag = 4 } ∷ []
unfolding entries box meets_test
one_of_three = refl

all_nodes : admitted all_but_the_last tree ≡ 3
unfolding tree box all_but_the_last meets_test
all_nodes = refl

-- the first leaf alone, of which the objects are answered by identifier
to_the_first : Bounds → Bool
to_the_first b = meets_test 2 b (box (pos 0) (negsuc 0) (pos 1) (pos 1))

abbrev two_rows : List (ℕ × Object)
two_rows = (1, (box (pos 0) (pos 0) (pos 0) (pos 0), 0)) ∷ (2, (box (pos 1) (pos 0) (pos 1) (pos 0), 9)) ∷ []

ascend : (i j : ℕ) (d : ℕ × Object) → i ≤ j → j < 2
    → (slice_index_or two_rows i d).0 ≤ (slice_index_or two_rows j d).0
ascend zero zero d first within = omega arith
ascend zero (suc zero) d first within = omega arith
ascend zero (suc (suc j)) d first within = absurd (omega (arith, within))
ascend (suc zero) zero d first within = absurd (omega (arith, first))
ascend (suc zero) (suc zero) d first within = omega arith
ascend (suc zero) (suc (suc j)) d first within = absurd (omega (arith, within))
ascend (suc (suc i)) j d first within = absurd (omega (arith, first, within))

by_identifier : IsRangeAnswer to_the_first None tree two_rows
unfolding tree box to_the_first meets_test
by_identifier =
    record {
      all =
          IsPermutation-middle ((2, (box (pos 1) (pos 0) (pos 1) (pos 0), 9)) ∷ [])
          (1, (box (pos 0) (pos 0) (pos 0) (pos 0), 0)) [];
      order = ascend;
    }

-- within a box lies only what reaches no further, though more of it meets the box
one_is_inside : (within_test 2 (box (pos 0) (pos 0) (pos 1) (pos 1))
    (box (pos 0) (pos 0) (pos 1) (pos 2)) ≡ true)
    × (within_test 2 (box (pos 1) (pos 1) (pos 2) (pos 2)) (box (pos 0) (pos 0) (pos 1) (pos 2)) ≡ false)
unfolding box within_test
one_is_inside = (refl, refl)
