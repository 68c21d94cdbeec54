-- Worked examples of joins.
use Rattle.std.proofs.Common.{◌≡◌, ℤ, List, pos, [], ◌∷◌, refl}
use Rattle.box_math.specs.Bounds.{Bounds}
use Rattle.box_math.specs.Measures.{near_test}
use Rattle.tree_node.specs.Trees.{end, more, object, child, Tree}
use Rattle.tree_node.specs.Boxes.{least_box}
use Rattle.tree_node.specs.Joins.{admitted_pairs}
use Rattle.tree_node.specs.Nodes.{Item}
use Rattle.spatial_join.specs.Pairs.{near_below, pairs_of}

at : ℤ → ℤ → Bounds
at from to = record { low = from ∷ pos 0 ∷ []; high = to ∷ pos 0 ∷ [] }

-- leaves of objects 9 and 2, from 0 to 2 and at 1, and of 5, at 10
tree : Tree
tree = record {
  page = 5;
  level = 1;
  row = more
      (child (at (pos 0) (pos 2)) 3
      (more (object (at (pos 0) (pos 2), 9) 9) (more (object (at (pos 1) (pos 1), 2) 2) end)))
      (more (child (at (pos 10) (pos 10)) 4 (more (object (at (pos 10) (pos 10), 5) 5) end)) end);
}

-- a leaf of object 7, from 2 to 9
leaf : Tree
leaf = record { page = 6; level = 0; row = more (object (at (pos 2) (pos 9), 7) 7) end }

empty : Tree
empty = record { page = 7; level = 0; row = end }

-- boxes that touch meet
a_pair : near_below 2 0 tree.row leaf.row ≡ (9, 7) ∷ []
unfolding tree leaf at near_test
a_pair = refl

-- of one object beside others, in their order
others : List Item
others =
    record { bounds = at (pos 2) (pos 9); reference = 7; tag = 0 }
    ∷ record { bounds = at (pos 4) (pos 5); reference = 3; tag = 0 }
    ∷ record { bounds = at (pos 1) (pos 1); reference = 2; tag = 0 } ∷ []

of_an_object : pairs_of 2 0 others
    (record { bounds = at (pos 0) (pos 2); reference = 9; tag = 0 }) ≡ (9, 7) ∷ (9, 2) ∷ []
unfolding others at near_test
of_an_object = refl

-- with itself all ordered pairs
with_itself : near_below 2 0 tree.row tree.row ≡ (9, 9) ∷ (9, 2) ∷ (2, 9) ∷ (2, 2) ∷ (5, 5) ∷ []
unfolding tree at near_test
with_itself = refl

-- the two roots, and the first leaf beside the other root
a_leaf_beside_a_root : admitted_pairs 2 0 tree leaf ≡ 2
unfolding tree leaf at near_test least_box
a_leaf_beside_a_root = refl

-- the two roots alone, since an empty one has no box
an_empty_root : admitted_pairs 2 0 tree empty ≡ 1
unfolding tree empty at near_test least_box
an_empty_root = refl

-- the roots, each leaf beside the other root by turns, and each leaf beside itself
a_tree_beside_itself : admitted_pairs 2 0 tree tree ≡ 7
unfolding tree at near_test least_box
a_tree_beside_itself = refl
