-- The child that a new box goes to (Beckmann, Kriegel, Schneider and Seeger 1990; ties go to the least
-- position, which is our rule, docs/RULES.md).
use Rattle.std.specs.Prelude.{ℕ, ◌-◌, ◌<◌, ◌≤◌, ◌==◌, List, [], ◌∷◌, length, slice_index, if◌then◌else◌}
use Rattle.box_math.specs.Bounds.{Bounds, join_of}
use Rattle.box_math.specs.Measures.{sum_over, volume_of, overlap_of}
use Rattle.tree_node.specs.Nodes.{Item}
use Rattle.tree_node.specs.Boxes.{box_at}
use Rattle.tree_node.specs.Keys.{IsFirstLeast}
use Rattle.choose_subtree.specs.declared.key.Key.{Key}

-- how much the area of a box grows where it takes in another
abbrev pub growth_of : ℕ → Bounds → Bounds → ℕ
growth_of dims a b = volume_of dims (join_of dims a b) - volume_of dims a

-- what a box in the place of entry k has in common with entry i, if that is another
abbrev pub overlap_with : ℕ → List Item → ℕ → Bounds → ℕ → ℕ
overlap_with dims items k b i = if i == k then 0 else overlap_of dims b (box_at items i)

-- the overlap of a box in the place of entry k with all other entries
unfoldable pub overlap_at : ℕ → List Item → ℕ → Bounds → ℕ
overlap_at dims items k b = sum_over (length items) (overlap_with dims items k b)

-- how much the overlap of entry k with the others grows where it takes in a new box
abbrev pub overlap_growth : ℕ → List Item → Bounds → ℕ → ℕ
overlap_growth dims items new k =
    overlap_at dims items k (join_of dims (box_at items k) new) - overlap_at dims items k (box_at items k)

-- how much the area of entry k grows, and then the area
abbrev pub area_key : ℕ → List Item → Bounds → ℕ → List ℕ
area_key dims items new k = growth_of dims (box_at items k) new ∷ volume_of dims (box_at items k) ∷ []

-- before these, how much its overlap with the others grows
abbrev pub overlap_key : ℕ → List Item → Bounds → ℕ → List ℕ
overlap_key dims items new k = overlap_growth dims items new k ∷ area_key dims items new k

-- the area of each of the first entries grows at least so much
abbrev pub GrowSoMuch : ℕ → List Item → Bounds → ℕ → List ℕ → Type 0
GrowSoMuch dims items new count growths = (k : ℕ) → k < count
    → slice_index growths k ≤ growth_of dims (box_at items k) new

-- what decides between the children of a node on a level: above the leaves the growth of the overlap comes
-- first
unfoldable pub child_key : ℕ → ℕ → List Item → Bounds → ℕ → List ℕ
child_key dims level items new k =
    if level == 1 then overlap_key dims items new k else area_key dims items new k

-- the child of a node on this level that a new box goes to
abbrev pub IsChosenChild : ℕ → ℕ → List Item → Bounds → ℕ → Type 0
IsChosenChild dims level items new at = IsFirstLeast (length items) (child_key dims level items new) at

-- ---- keys of the code, which end in the position

-- the key of entry k where so much of its overlap is known
abbrev pub numbers_with : ℕ → ℕ → List Item → Bounds → ℕ → List ℕ
numbers_with overlap dims items new k =
    overlap ∷ growth_of dims (box_at items k) new ∷ volume_of dims (box_at items k) ∷ k ∷ []

abbrev pub numbers_of : Key → List ℕ
numbers_of key = key.overlap ∷ key.growth ∷ key.area ∷ key.position ∷ []
