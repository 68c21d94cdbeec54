-- The objects nearest to a point (the distance is MINDIST of Roussopoulos, Kelley and Vincent 1995; the order
-- of ties is our rule, docs/FORMAT.md, "Trees of pages").
use Rattle.std.specs.Prelude.{ℕ, ◌-◌, Bool, ◌||◌, nat_lt, nat_le, ℤ, List, length, slice_index_or}
use Rattle.std.specs.Prelude.{take}
use Rattle.box_math.specs.Bounds.{Bounds}
use Rattle.box_math.specs.Measures.{point_dist2_of}
use Rattle.box_math.specs.Nearest.{by_distance}
use Rattle.tree_node.specs.Trees.{Tree, objects_in}

-- the k objects of a tree that are nearest to the point, or all of fewer, in order
abbrev pub nearest_rows : ℕ → ℕ → List ℤ → Tree → List (ℕ × ℕ)
nearest_rows dims k point t = take k (by_distance dims point (objects_in t.row))

-- whether a search for the k nearest, which has these answers, looks into a node with this box: where the box
-- is no farther than the kth answer, and where there are fewer than k
abbrev pub is_searched : ℕ → ℕ → List ℤ → List (ℕ × ℕ) → Bounds → Bool
is_searched dims k point rows box = nat_lt (length rows) k
    || nat_le (point_dist2_of dims box point) (slice_index_or rows (k - 1) (0, 0)).1
