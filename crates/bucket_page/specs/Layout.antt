-- How a page spells a bucket of the identifier table (our format, docs/FORMAT.md): byte 0 is 7, byte 1 the
-- dimension, at 2 the count, at 4 the next page, and from 16 on the entries, one after the other. In a page
-- of format 1 byte 0 is 4, and its entries have no tags.
use Rattle.std.specs.Prelude.{◌≡◌, ℕ, ◌+◌, ◌*◌, ◌<◌, ◌≤◌, ◌&&◌, ◌||◌, ◌==◌, ◌⊎◌, Bool, nat_le, List, [], ◌∷◌}
use Rattle.std.specs.Prelude.{◌++◌, ◌-◌, length, slice_set, take, All, Option, Some, None, if◌then◌else◌}
use Rattle.block_bytes.specs.Kinds.{HasHead, bucket_kind, untagged_bucket_kind}
use Rattle.block_bytes.specs.Numbers.{number_at, IsApart}
use Rattle.block_bytes.specs.Places.{first_places}
use Rattle.box_math.specs.Bounds.{IsBox, IsOrdered, ordered_test, all_over}
use Rattle.box_math.specs.Objects.{Object, bounds_of}
use Rattle.box_bytes.specs.Corners.{box_at}
use Rattle.bucket_page.specs.declared.bucket.Bucket.{Bucket}

-- an object as a bucket has it: its identifier, and what is kept of it
abbrev pub Entry : Type 0
Entry = ℕ × Object

-- what a bucket holds: the page of the next one, 0 if there is none, and its objects
pub record BucketContent : Type 0 where
  pub next : ℕ
  pub entries : List Entry

abbrev pub content_of : {D : ℕ} → Bucket D → BucketContent
content_of bucket = record { next = bucket.next; entries = bucket.entries.items }

-- a bucket with an object more, in the place after the last one
abbrev pub pushed : BucketContent → Entry → BucketContent
pushed c object = record { next = c.next; entries = c.entries ++ object ∷ [] }

-- with another object in a place, and without its last one
abbrev pub replaced : BucketContent → ℕ → Entry → BucketContent
replaced c place object = record { next = c.next; entries = slice_set c.entries place object }

abbrev pub popped : BucketContent → BucketContent
popped c = record { next = c.next; entries = take (length c.entries - 1) c.entries }

-- a bucket that a page can spell: 1 to 100 objects, each with a box
pub record IsBucket (dims : ℕ) (c : BucketContent) : Type 0 where
  pub some : 1 ≤ length c.entries
  pub few : length c.entries ≤ 100
  pub boxes : All (λ object. IsBox dims (bounds_of object.1)) c.entries

-- ---- one entry

-- the bytes of an entry by the kind of its page: 8 of identifier, 4 for each low and each high, and 4 of tag
unfoldable pub entry_size : ℕ → ℕ → ℕ
entry_size dims kind = if kind == untagged_bucket_kind then 8 + 8 * dims else 12 + 8 * dims

-- where the entry in a place begins, of entries of one size
unfoldable pub entry_place : ℕ → ℕ → ℕ
entry_place size place = 16 + size * place

-- the tag that stands at a place, or 0 in a page without tags
unfoldable pub tag_in : ℕ → ℕ → List ℕ → ℕ
tag_in kind at page = if kind == untagged_bucket_kind then 0 else number_at 4 at page

-- the object whose entry begins at a place: its identifier, then its lows, then its highs, then its tag
abbrev pub object_from : ℕ → ℕ → List ℕ → ℕ → Entry
object_from dims kind page at = (
  number_at 8 at page,
  (box_at dims page (at + 8) (at + 8 + 4 * dims) 4, tag_in kind (at + 8 + 8 * dims) page),
)

-- the object in a place, read as in a page of a kind
unfoldable pub object_in : ℕ → ℕ → List ℕ → ℕ → Entry
object_in dims kind page place = object_from dims kind page (entry_place (entry_size dims kind) place)

-- the object in a place, by the page's own kind
abbrev pub object_at : ℕ → List ℕ → ℕ → Entry
object_at dims page place = object_in dims (number_at 1 0 page) page place

-- the objects in the first places
abbrev pub objects_at : ℕ → List ℕ → ℕ → List Entry
objects_at dims page count = first_places (object_at dims page) count

-- each low of the object is at most its high
abbrev pub HasOrderedBox : ℕ → Entry → Type 0
HasOrderedBox dims object = IsOrdered dims (bounds_of object.1).low (bounds_of object.1).high

-- n bytes from a place lie outside an entry of this size
abbrev pub IsClearOfEntry : ℕ → ℕ → ℕ → ℕ → Type 0
IsClearOfEntry size place n at = IsApart n at size (entry_place size place)

-- ---- the page

-- the kinds of bucket pages
abbrev pub IsBucketKind : ℕ → Type 0
IsBucketKind kind = (kind ≡ bucket_kind) ⊎ (kind ≡ untagged_bucket_kind)

-- the first bytes of a bucket page as it is written
pub record IsHead (dims count next : ℕ) (page : List ℕ) : Type 0 where
  pub head : HasHead bucket_kind dims count page
  pub next_is : number_at 4 4 page ≡ next

-- the page begins as a bucket page of this dimension does
pub record HasBucketHead (dims : ℕ) (page : List ℕ) : Type 0 where
  pub kind : IsBucketKind (number_at 1 0 page)
  pub dims_is : number_at 1 1 page ≡ dims
  pub some : 1 ≤ number_at 2 2 page
  pub few : number_at 2 2 page ≤ 100

-- the page spells this bucket
pub record Spells (dims : ℕ) (page : List ℕ) (c : BucketContent) : Type 0 where
  pub head : HasBucketHead dims page
  pub next : number_at 4 4 page ≡ c.next
  pub ordered : (place : ℕ) → place < number_at 2 2 page → HasOrderedBox dims (object_at dims page place)
  pub entries : c.entries ≡ objects_at dims page (number_at 2 2 page)

abbrev pub is_ordered : ℕ → Entry → Bool
is_ordered dims object = ordered_test dims (bounds_of object.1).low (bounds_of object.1).high

abbrev pub is_bucket_kind : ℕ → Bool
is_bucket_kind kind = kind == bucket_kind || kind == untagged_bucket_kind

-- whether the page spells a bucket
unfoldable pub bucket_test : ℕ → List ℕ → Bool
bucket_test dims page =
    is_bucket_kind (number_at 1 0 page) && number_at 1 1 page == dims && nat_le 1 (number_at 2 2 page)
    && nat_le (number_at 2 2 page) 100
    && all_over (number_at 2 2 page) (λ place. is_ordered dims (object_at dims page place))

-- the bucket that the page spells, if it spells one
unfoldable pub bucket_at : ℕ → List ℕ → Option BucketContent
bucket_at dims page =
    if bucket_test dims page then Some
    (record { next = number_at 4 4 page; entries = objects_at dims page (number_at 2 2 page) }) else None

-- a byte of the head or of one of the first entries: those of the places 8 to 15, and those after the
-- entries, are not
abbrev pub IsNamed : ℕ → ℕ → ℕ → Type 0
IsNamed size count k = (k < 8) ⊎ ((16 ≤ k) × (k < entry_place size count))

-- the page has the kind of a bucket of format 1
abbrev pub IsUntagged : List ℕ → Type 0
IsUntagged page = number_at 1 0 page ≡ untagged_bucket_kind

-- the bytes of an entry of this page
abbrev pub size_in : ℕ → List ℕ → ℕ
size_in dims page = entry_size dims (number_at 1 0 page)

-- a byte that this page names
abbrev pub names : ℕ → List ℕ → ℕ → Type 0
names dims page = IsNamed (size_in dims page) (number_at 2 2 page)

-- all other bytes of the page are zero
abbrev pub IsTidy : ℕ → List ℕ → Type 0
IsTidy dims page = (k : ℕ) → (names dims page k → ⊥) → number_at 1 k page ≡ 0
