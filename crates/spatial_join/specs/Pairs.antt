-- The pairs of objects that a join of two trees answers (the spatial join of Brinkhoff, Kriegel and Seeger
-- 1993 by the intersection of boxes, and here by their distance; the order of the pairs is our rule,
-- docs/FORMAT.md, "Trees of pages"). `limit` is the greatest squared distance that counts: at 0 boxes have to
-- meet.
use Rattle.std.specs.Prelude.{◌≡◌, ℕ, ◌+◌, List, map, IsPermutation}
use Rattle.std.specs.List.{filter, flat_map}
use Rattle.std.specs.List.Sorted.{IsSorted}
use Rattle.std.specs.Ordering.{nat_cmp, ordering_then}
use Rattle.std.specs.declared.cmp.Ordering.{Ordering}
use Rattle.box_math.specs.Objects.{Object, bounds_of}
use Rattle.box_math.specs.Measures.{near_test}
use Rattle.tree_node.specs.Nodes.{Item}
use Rattle.tree_node.specs.Positions.{total}
use Rattle.tree_node.specs.Trees.{Row, Tree, objects_in}

-- the pairs of identifiers of an object and each of the others whose box is that near to its box
abbrev pub pairs_with : ℕ → ℕ → List (ℕ × Object) → ℕ × Object → List (ℕ × ℕ)
pairs_with dims limit others object =
    map (λ other. (object.0, other.0))
    (filter (λ other. near_test dims limit (bounds_of object.1) (bounds_of other.1)) others)

-- the pairs of identifiers of an object of each list whose boxes are that near
abbrev pub near_objects : ℕ → ℕ → List (ℕ × Object) → List (ℕ × Object) → List (ℕ × ℕ)
near_objects dims limit objects others = flat_map (pairs_with dims limit others) objects

-- those of the objects below two nodes
abbrev pub near_below : ℕ → ℕ → Row → Row → List (ℕ × ℕ)
near_below dims limit s t = near_objects dims limit (objects_in s) (objects_in t)

-- those of the object in one entry of a leaf and of the objects in others whose boxes are that near
abbrev pub pairs_of : ℕ → ℕ → List Item → Item → List (ℕ × ℕ)
pairs_of dims limit others item =
    map (λ other. (item.reference, other.reference))
    (filter (λ other. near_test dims limit item.bounds other.bounds) others)

-- pairs ascend by the first identifier, and of an equal one by the second
abbrev pub pair_cmp : ℕ × ℕ → ℕ × ℕ → Ordering
pair_cmp p q = ordering_then (nat_cmp p.0 q.0) (nat_cmp p.1 q.1)

-- all ordered pairs of an object of each tree whose boxes are that near, each as often as the trees have it,
-- in order
pub record IsJoinAnswer (dims limit : ℕ) (s t : Tree) (pairs : List (ℕ × ℕ)) : Type 0 where
  pub all : IsPermutation (near_below dims limit s.row t.row) pairs
  pub order : IsSorted pair_cmp pairs

-- the pairs below two nodes are added: each sum over the pairs rises by that over theirs
abbrev pub GainsPairs : ℕ → ℕ → Row → Row → List (ℕ × ℕ) → List (ℕ × ℕ) → Type 0
GainsPairs dims limit s t old now = (f : ℕ × ℕ → ℕ)
    → total f now ≡ total f old + total f (near_below dims limit s t)

-- the pairs of the objects in entries of one leaf and in those of another are added, in this sense
abbrev pub GainsItems : ℕ → ℕ → List Item → List Item → List (ℕ × ℕ) → List (ℕ × ℕ) → Type 0
GainsItems dims limit items others old now = (f : ℕ × ℕ → ℕ)
    → total f now ≡ total f old + total f (flat_map (pairs_of dims limit others) items)
