-- What a leaf page spells: objects, in places of no order.
use Rattle.std.specs.Prelude.{◌≡◌, ℕ, ◌<◌, ◌≤◌, ◌&&◌, ◌==◌, Bool, nat_le, List, Option, Some, None}
use Rattle.std.specs.Prelude.{if◌then◌else◌}
use Rattle.block_bytes.specs.Kinds.{bucket_kind}
use Rattle.block_bytes.specs.Numbers.{number_at}
use Rattle.block_bytes.specs.Places.{first_places}
use Rattle.box_math.specs.Bounds.{IsDims, all_over, dims_test}
use Rattle.bucket_page.specs.Layout.{Entry, HasOrderedBox, entry_size, is_ordered, object_in}
use Rattle.id_page.specs.Layout.{IsNamed, IsTidy, leaf_kind}

-- as many objects as fit, and none in a dimension that no layer has
unfoldable pub most_objects : ℕ → ℕ
most_objects dims = if dims == 2 then 145 else if dims == 3 then 113 else 0

-- an object stands as in a bucket page with tags
abbrev pub object_size : ℕ → ℕ
object_size dims = entry_size dims bucket_kind

abbrev pub leaf_object : ℕ → List ℕ → ℕ → Entry
leaf_object dims page place = object_in dims bucket_kind page place

-- the page begins as a leaf of this dimension, of two or three axes, does
pub record HasLeafHead (dims : ℕ) (page : List ℕ) : Type 0 where
  pub axes : IsDims dims
  pub kind : number_at 1 0 page ≡ leaf_kind
  pub dims_is : number_at 1 1 page ≡ dims
  pub few : number_at 2 2 page ≤ most_objects dims

-- the page spells a leaf of these objects
pub record SpellsLeaf (dims : ℕ) (page : List ℕ) (objects : List Entry) : Type 0 where
  pub head : HasLeafHead dims page
  pub ordered : (place : ℕ) → place < number_at 2 2 page → HasOrderedBox dims (leaf_object dims page place)
  pub objects_are : objects ≡ first_places (leaf_object dims page) (number_at 2 2 page)

-- whether it spells one, and which
unfoldable pub leaf_test : ℕ → List ℕ → Bool
leaf_test dims page = dims_test dims && number_at 1 0 page == leaf_kind && number_at 1 1 page == dims
    && nat_le (number_at 2 2 page) (most_objects dims)
    && all_over (number_at 2 2 page) (λ place. is_ordered dims (leaf_object dims page place))

unfoldable pub leaf_at : ℕ → List ℕ → Option (List Entry)
leaf_at dims page = if leaf_test dims page then Some
    (first_places (leaf_object dims page) (number_at 2 2 page)) else None

-- the bytes that a leaf page names, and a page in which all others are zero
abbrev pub leaf_names : ℕ → List ℕ → ℕ → Type 0
leaf_names dims page = IsNamed 4 (object_size dims) (number_at 2 2 page)

abbrev pub IsTidyLeaf : ℕ → List ℕ → Type 0
IsTidyLeaf dims page = IsTidy 4 (object_size dims) page
