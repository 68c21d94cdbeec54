-- What is written into pages that are given out.
use Rattle.std.specs.Prelude.{◌≡◌, ℕ, ◌+◌, ◌<◌, List, [], ◌∷◌, ◌++◌, length, slice_set, swap_remove, Some}
use Rattle.std.specs.Prelude.{None}
use Rattle.page_file.specs.Pages.{SameBut}
use Rattle.node_page.specs.Standing.{PageMap}
use Rattle.bucket_page.specs.Layout.{Entry}
use Rattle.id_page.specs.Leaf.{IsTidyLeaf, leaf_at, most_objects}
use Rattle.id_tree.specs.Tree.{fork_in}

-- a page that was not live has these bytes
pub record Gives (old new : PageMap) (number : ℕ) (bytes : List ℕ) : Type 0 where
  pub low : 2 < number
  pub fresh : old number ≡ None
  pub others : SameBut number old new
  pub there : new number ≡ Some bytes

-- such a page has the second bytes, and a live one the first
pub record GivesAndPuts (old new : PageMap) (page number : ℕ) (first second : List ℕ) : Type 0 where
  pub low : 2 < number
  pub fresh : old number ≡ None
  pub apart : ¬ (number ≡ page)
  pub others : (n : ℕ) → ¬ (n ≡ number) → ¬ (n ≡ page) → new n ≡ old n
  pub there_first : new page ≡ Some first
  pub there_second : new number ≡ Some second

-- such a page has these bytes, and a root names it as its only child
pub record NamesNew (dims : ℕ) (old new : PageMap) (root level number : ℕ) (bytes : List ℕ) : Type 0 where
  pub low : 2 < number
  pub fresh : old number ≡ None
  pub apart : ¬ (number ≡ root)
  pub others : (n : ℕ) → ¬ (n ≡ number) → ¬ (n ≡ root) → new n ≡ old n
  pub there : new number ≡ Some bytes
  pub named : fork_in dims (new root) ≡ Some (record { level = level; links = (0, number) ∷ [] })

-- such a page is the leaf of this object
pub record Starts (dims : ℕ) (old new : PageMap) (root : ℕ) (object : Entry) : Type 0 where
  pub number : ℕ
  pub bytes : List ℕ
  pub named : NamesNew dims old new root 1 number bytes
  pub leaf : leaf_at dims bytes ≡ Some (object ∷ [])

-- such a page has what the root had, which is on the next level then
pub record Deepens (dims : ℕ) (old new : PageMap) (root level number : ℕ) : Type 0 where
  pub bytes : List ℕ
  pub was : old root ≡ Some bytes
  pub named : NamesNew dims old new root (level + 1) number bytes

-- ---- a leaf page changed where it lies

-- it has an object more, where there is room
pub record PushesObject (dims : ℕ) (object : Entry) (old new : List ℕ) : Type 0 where
  pub pushed : (objects : List Entry) → leaf_at dims old ≡ Some objects → length objects < most_objects dims
      → leaf_at dims new ≡ Some (objects ++ object ∷ [])
  pub tidy : IsTidyLeaf dims old → IsTidyLeaf dims new

-- another one in a place of one
pub record SetsObject (dims place : ℕ) (object : Entry) (old new : List ℕ) : Type 0 where
  pub replaced : (objects : List Entry) → leaf_at dims old ≡ Some objects → place < length objects
      → leaf_at dims new ≡ Some (slice_set objects place object)
  pub tidy : IsTidyLeaf dims old → IsTidyLeaf dims new

-- the last one in the place of one that is taken
pub record TakesObject (dims place : ℕ) (old new : List ℕ) : Type 0 where
  pub taken : (objects : List Entry) (other : Entry) → leaf_at dims old ≡ Some objects
      → place < length objects
      → leaf_at dims new ≡ Some (swap_remove objects place other)
  pub tidy : IsTidyLeaf dims old → IsTidyLeaf dims new
