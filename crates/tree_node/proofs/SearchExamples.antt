-- Worked examples of searches and joins. No lemma rests on them.
use Rattle.std.proofs.Common.{Bool, ◌≡◌, [], ◌∷◌, refl}
use Rattle.box_math.specs.Bounds.{Bounds, meets_test}
use Rattle.box_math.specs.Measures.{near_test}
use Rattle.tree_node.specs.Boxes.{least_box}
use Rattle.tree_node.specs.Joins.{admitted_pairs}
use Rattle.tree_node.specs.Searches.{admitted, nodes_in, objects_reached, passing_objects, reached}
use Rattle.tree_node.specs.Trees.{end, row_items}
use Rattle.tree_node.proofs.TreeExamples.{box, point, tree}

abbrev window : Bounds → Bounds → Bool
window sought b = meets_test 2 b sought

-- a window over the second leaf looks at it and the root, one over all at all, one beside them at the root
-- alone
looks : (admitted (window (box 3 0 9 9)) tree ≡ 2) × (admitted (window (box 0 0 9 9)) tree ≡ 3)
    × (admitted (window (box 9 9 9 9)) tree ≡ 1) × (nodes_in tree ≡ 3)
unfolding meets_test
looks = (refl, refl, refl, refl)

-- and finds what meets it
finds : (passing_objects (window (box 3 0 9 9)) tree.row ≡ (8, (point 3 2, 4294967295)) ∷ [])
    × (objects_reached (window (box 3 0 9 9)) (window (box 3 0 9 9))
    tree.row ≡ (8, (point 3 2, 4294967295)) ∷ [])
unfolding meets_test
finds = (refl, refl)

-- the tree with itself: the roots, each root with each leaf, and each leaf with itself; an empty root gives
-- one pair
pairs : (admitted_pairs 2 0 tree tree ≡ 7)
    × (admitted_pairs 2 0 tree (record { page = 9; level = 0; row = end }) ≡ 1)
unfolding near_test least_box
pairs = (refl, refl)

its_box : (least_box 2 (row_items tree.row) ≡ box 0 0 3 2) × (reached (window (box 3 0 9 9)) tree.row ≡ 1)
unfolding meets_test least_box
its_box = (refl, refl)
