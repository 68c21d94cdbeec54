-- Runs: the identifiers from one to another that lead to one leaf, and objects that come there one after the
-- other.
use Rattle.std.specs.Prelude.{ℕ, ◌+◌, ◌-◌, ◌<◌, ◌≤◌, List, length, slice_index_or, All}
use Rattle.bucket_page.specs.Layout.{Entry}
use Rattle.id_page.specs.Fork.{Link}
use Rattle.id_page.specs.Leaf.{most_objects}
use Rattle.id_tree.specs.Rows.{At, Stops}
use Rattle.id_tree.specs.Tree.{IdTree, Row, objects_in}

-- an identifier is below the key of the child behind a place, if there is one
abbrev pub IsUpto : List Link → ℕ → ℕ → Type 0
IsUpto links place upto =
    (other : Link) → place + 1 < length links → upto < (slice_index_or links (place + 1) other).0

-- the way from a node down to the leaf where all identifiers from one to another are
pub data Spans (from upto : ℕ) : ℕ → ℕ → Row → ℕ → Row → Type 0 where
  spans_here : (page : ℕ) (row : Row) → Spans from upto 0 page row page row
  spans_down : (level page below leaf : ℕ) (row last : Row) → 0 < level → (way : At from below row)
      → Stops upto way.rest → Spans from upto (level - 1) below way.below leaf last
      → Spans from upto level page row leaf last

-- all identifiers from one to another lead to a leaf that takes so many objects more
pub record HasRun (dims page level : ℕ) (row : Row) (from upto leaf room : ℕ) : Type 0 where
  pub last : Row
  pub way : Spans from upto level page row leaf last
  pub takes : length (objects_in last) + room ≤ most_objects dims

-- the identifier of an object is from one to another
abbrev pub IsFromTo : ℕ → ℕ → Entry → Type 0
IsFromTo from upto object = (from ≤ object.0) × (object.0 ≤ upto)

-- these objects all come into one leaf of a table, which takes them
pub record TakesAll (dims : ℕ) (t : IdTree) (leaf : ℕ) (objects : List Entry) : Type 0 where
  pub from : ℕ
  pub upto : ℕ
  pub within : All (IsFromTo from upto) objects
  pub run : HasRun dims t.page t.level t.row from upto leaf (length objects)
