-- What waits in a search for the nearest objects, and what is kept of those that were seen (best first is our
-- rule, docs/FORMAT.md, "Trees of pages").
use Rattle.std.specs.Prelude.{⊤, ◌≡◌, ℕ, zero, suc, ◌-◌, ◌^◌, ◌<◌, ◌≤◌, List, [], ◌∷◌, ◌++◌, All, take}
use Rattle.std.specs.Prelude.{sum_by, IsPermutation, length, slice_index, slice_index_or}
use Rattle.box_math.specs.Bounds.{Bounds}
use Rattle.box_math.specs.Nearest.{put_nearest_first}
use Rattle.tree_node.specs.Boxes.{no_item}
use Rattle.tree_node.specs.Nodes.{Item}
use Rattle.nearest.specs.declared.candidate.Candidate.{Candidate}

-- the child that an entry of a node on this level names, at this distance of its box
abbrev pub candidate_at : (Bounds → ℕ) → ℕ → Item → Candidate
candidate_at far level item = record { distance = far item.bounds; page = item.reference; level = level - 1 }

-- the object that an entry of a leaf names, at this distance of its box
abbrev pub row_at : (Bounds → ℕ) → Item → ℕ × ℕ
row_at far item = (item.reference, far item.bounds)

-- these are the distances of the boxes of a node, where none is 2^31 or more away on an axis
pub record AreDistances (far : Bounds → ℕ) (items : List Item) (squares : List ℕ) (widest : ℕ) : Type 0 where
  pub few : length items ≤ 100
  pub exact : widest < 2 ^ 31 → (place : ℕ) → place < length items
      → slice_index squares place ≡ far (slice_index_or items place no_item).bounds

-- a candidate is no nearer than this
abbrev pub IsAsFar : ℕ → Candidate → Type 0
IsAsFar d c = d ≤ c.distance

-- the first k of these objects are there, and nearer than the distance
abbrev pub Past : ℕ → ℕ → List (ℕ × ℕ) → Type 0
Past d zero best = ⊤
Past d (suc k) [] = ⊥
Past d (suc k) (x ∷ best) = (x.1 < d) × Past d k best

-- the k best, once these were offered one after the other
abbrev pub offered : ℕ → List (ℕ × ℕ) → List (ℕ × ℕ) → List (ℕ × ℕ)
offered k best [] = best
offered k best (x ∷ xs) = offered k (take k (put_nearest_first x best)) xs

-- these children were appended to what was there, but for some that are farther than the k best
pub record Appends (k : ℕ) (best : List (ℕ × ℕ)) (children old new : List Candidate) : Type 0 where
  pub kept : List Candidate
  pub gone : List Candidate
  pub all : IsPermutation children (kept ++ gone)
  pub past : All (λ c. Past c.distance k best) gone
  pub is : new ≡ old ++ kept

-- The work that is left, at the most: a node is read, and each of its at most 100 children is taken later.
abbrev pub work_of : Candidate → ℕ
work_of c = 101 ^ c.level

abbrev pub work_in : List Candidate → ℕ
work_in queue = sum_by work_of queue
