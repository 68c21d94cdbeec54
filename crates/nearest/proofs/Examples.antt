-- Worked examples of what is nearest.
use Rattle.std.proofs.Common.{◌≡◌, true, false, ℤ, pos, negsuc, List, [], ◌∷◌, refl}
use Rattle.box_math.specs.Bounds.{Bounds}
use Rattle.tree_node.specs.Searches.{admitted, counted}
use Rattle.tree_node.specs.Trees.{end, more, object, child, Tree}
use Rattle.box_math.specs.Nearest.{comes_first, nearest_first}
use Rattle.nearest.specs.Nearest.{is_searched, nearest_rows}

-- the nearer comes first, and of equal distances the lesser identifier
of_two : (comes_first (9, 24) (4, 25) ≡ true) × (comes_first (4, 25) (9, 25) ≡ true)
    × (comes_first (9, 25) (4, 25) ≡ false)
of_two = (refl, refl, refl)

of_three : nearest_first ((9, 25) ∷ (4, 25) ∷ (1, 24) ∷ []) ≡ (1, 24) ∷ (4, 25) ∷ (9, 25) ∷ []
of_three = refl

-- a point on a row, and a box from one point of it to another
at : ℤ → ℤ → Bounds
at from to = record { low = from ∷ pos 0 ∷ []; high = to ∷ pos 0 ∷ [] }

-- leaves of objects 8 and 9 at -5 and -6, and of 1, 2 and 3 at 5, 6 and 7
tree : Tree
tree = record {
  page = 5;
  level = 1;
  row = more
      (child (at (negsuc 5) (negsuc 4)) 3
      (more (object (at (negsuc 4) (negsuc 4), 8) 8) (more (object (at (negsuc 5) (negsuc 5), 9) 9) end)))
      (more (child (at (pos 5) (pos 7)) 4
      (more (object (at (pos 5) (pos 5), 1) 1)
      (more (object (at (pos 6) (pos 6), 2) 2) (more (object (at (pos 7) (pos 7), 3) 3) end)))) end);
}

origin : List ℤ
origin = pos 0 ∷ pos 0 ∷ []

-- both leaves are as far as the answer, so both are looked into
one_is_nearest : nearest_rows 2 1 origin tree ≡ (1, 25) ∷ []
unfolding tree at origin
one_is_nearest = refl

both_leaves_are_searched : admitted (is_searched 2 1 origin (nearest_rows 2 1 origin tree)) tree ≡ 3
unfolding tree at origin
both_leaves_are_searched = refl

-- from -7 the other leaf is too far for one answer
one_leaf_is_searched : admitted
    (is_searched 2 1 (negsuc 6 ∷ pos 0 ∷ []) (nearest_rows 2 1 (negsuc 6 ∷ pos 0 ∷ []) tree)) tree ≡ 2
unfolding tree at
one_leaf_is_searched = refl

-- where fewer objects are there, all are answered, and all nodes are searched
all_five : nearest_rows 2 9 origin tree ≡ (1, 25) ∷ (8, 25) ∷ (2, 36) ∷ (9, 36) ∷ (3, 49) ∷ []
unfolding tree at origin
all_five = refl

all_are_searched : admitted
    (is_searched 2 9 (negsuc 6 ∷ pos 0 ∷ []) (nearest_rows 2 9 (negsuc 6 ∷ pos 0 ∷ []) tree)) tree ≡ 3
unfolding tree at
all_are_searched = refl

-- a count of looks stays at its greatest value
full_count : counted 18446744073709551614 3 ≡ 18446744073709551615
full_count = refl
