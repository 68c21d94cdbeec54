-- The pairs of nodes that a join of two trees has to look at (the spatial join of Brinkhoff, Kriegel and
-- Seeger 1993; which pairs are admitted is our rule, docs/FORMAT.md, "Trees of pages").
use Rattle.std.specs.Prelude.{ℕ, ◌+◌, Bool, if◌then◌else◌, List, [], ◌∷◌, ◌++◌}
use Rattle.box_math.specs.Bounds.{Bounds}
use Rattle.box_math.specs.Measures.{near_test}
use Rattle.tree_node.specs.Boxes.{least_box}
use Rattle.tree_node.specs.Positions.{total}
use Rattle.tree_node.specs.Trees.{Row, end, more, object, child, Tree, row_items}

-- the boxes of the nodes below, each node before those below it
abbrev pub boxes_below : Row → List Bounds
boxes_below end = []
boxes_below (more (object kept id) rest) = boxes_below rest
boxes_below (more (child bounds page below) rest) = bounds ∷ (boxes_below below ++ boxes_below rest)

-- the box of a root, none of an empty one
abbrev pub root_box : ℕ → Row → List Bounds
root_box dims end = []
root_box dims (more branch rest) = least_box dims (row_items (more branch rest)) ∷ []

-- how many of the boxes pass
abbrev pub count_passing : (Bounds → Bool) → List Bounds → ℕ
count_passing test boxes = total (λ b. if test b then 1 else 0) boxes

-- how many pairs of a box of each list have at most that squared distance
abbrev pub near_pairs : ℕ → ℕ → List Bounds → List Bounds → ℕ
near_pairs dims within boxes others = total (λ b. count_passing (near_test dims within b) others) boxes

-- the pairs that a join within that squared distance admits: the two roots, and each other pair of a node of
-- each tree whose boxes are that near
abbrev pub admitted_pairs : ℕ → ℕ → Tree → Tree → ℕ
admitted_pairs dims within s t =
    1 + near_pairs dims within (root_box dims s.row) (boxes_below t.row) + near_pairs dims within
    (boxes_below s.row) (root_box dims t.row)
    + near_pairs dims within (boxes_below s.row) (boxes_below t.row)
