-- What writes into the pages of a table leave (our rule, docs/FORMAT.md, "Identifier tables").
use Rattle.std.specs.Prelude.{◌≡◌, ◌⊎◌, ℕ, ◌<◌, ◌≤◌, All, List, [], ◌∷◌, ◌++◌, Option, Some, None, length}
use Rattle.std.specs.Prelude.{slice_index_or, take, drop, IfSome, IsSome, IsSomeAnd, ⊤}
use Rattle.block_bytes.specs.Numbers.{number_at}
use Rattle.box_math.specs.Bounds.{Bounds}
use Rattle.bucket_page.specs.Layout.{BucketContent, Entry, bucket_at, popped}
use Rattle.page_file.specs.Pages.{SameBut}
use Rattle.node_page.specs.Parts.{Part}
use Rattle.node_page.specs.Standing.{PageMap}
use Rattle.id_words.specs.Objects.{with_box, kept_in}
use Rattle.id_chains.specs.Table.{Bucket, IsDirectory, bucket_in, class_of, entries_in, link_at}
use Rattle.id_chains.specs.Tidy.{IsTidyDirectory, IsTidyPage, KeepsTidy}

-- a directory of empty chains
pub record NewDirectory (dims : ℕ) (page : List ℕ) : Type 0 where
  pub spelled : IsDirectory dims page
  pub empty : (class : ℕ) → link_at class page ≡ 0
  pub tidy : IsTidyDirectory page

-- one chain of the directory has another first page
pub record SetsLink (class first : ℕ) (old new : List ℕ) : Type 0 where
  pub link : link_at class new ≡ first
  pub others : (other : ℕ) → ¬ (other ≡ class) → link_at other new ≡ link_at other old
  pub kind : number_at 1 0 new ≡ number_at 1 0 old
  pub dims_is : number_at 1 1 new ≡ number_at 1 1 old
  pub tidy : IsTidyDirectory old → IsTidyDirectory new

-- there is no bucket with room at the beginning of a chain
abbrev pub BeginsFull : List Bucket → Type 0
BeginsFull [] = ⊤
BeginsFull (b ∷ bs) = length b.entries ≡ 100

-- a page that was not live has a bucket of these objects, and the directory names it as the first of its
-- chain
pub record PutsBefore (dims : ℕ) (old new : PageMap) (directory class first : ℕ) (objects : List Entry)
    (page : List ℕ) : Type 0 where
  pub number : ℕ
  pub low : 2 < number
  pub fresh : old number ≡ None
  pub bucket : bucket_in dims (new number) ≡ Some (record { next = first; entries = objects })
  pub tidy : IsSomeAnd (new number) (IsTidyPage dims)
  pub after : List ℕ
  pub there : new directory ≡ Some after
  pub link : SetsLink class number page after
  pub others : (k : ℕ) → ¬ (k ≡ number) → ¬ (k ≡ directory) → new k ≡ old k

-- the objects of a bucket have one with this identifier in a place
pub record HasAt (id : ℕ) (objects : List Entry) (place : ℕ) : Type 0 where
  pub within : place < length objects
  pub id_is : (other : Entry) → (slice_index_or objects place other).0 ≡ id

-- where they have one, if they do
abbrev pub IsFoundAt : ℕ → List Entry → Option ℕ → Type 0
IsFoundAt id objects None = kept_in id objects ≡ None
IsFoundAt id objects (Some place) = HasAt id objects place

-- a bucket of the chain, at this page, has the identifier in this place
pub record IsInChain (id : ℕ) (chain : List Bucket) (page place : ℕ) : Type 0 where
  pub before : List Bucket
  pub bucket : Bucket
  pub after : List Bucket
  pub is : chain ≡ before ++ bucket ∷ after
  pub page_is : bucket.page ≡ page
  pub has : HasAt id bucket.entries place

-- an object of a bucket with another box
abbrev pub moved : Entry → Bounds → Entry
moved object box = (object.0, with_box object.1 box)

-- some bucket of the chain has it
abbrev pub HasObject : ℕ → List Bucket → Type 0
HasObject id chain = IsSome (kept_in id (entries_in chain))

-- The first bucket of a chain lost its last object, and there are more.
pub record Shortens (dims : ℕ) (old new : PageMap) (first : ℕ) (c : BucketContent) : Type 0 where
  pub more : 1 < length c.entries
  pub bucket : bucket_in dims (new first) ≡ Some (popped c)
  pub others : SameBut first old new
  pub tidy : KeepsTidy dims old new

-- It lost its only one: its page is no longer live, and the directory names the next one as the first of the
-- chain.
pub record Unlinks (old new : PageMap) (directory class first : ℕ) (c : BucketContent) (page : List ℕ) : Type
    0 where
  pub only : length c.entries ≡ 1
  pub gone : new first ≡ None
  pub after : List ℕ
  pub there : new directory ≡ Some after
  pub link : SetsLink class c.next page after
  pub others : (k : ℕ) → ¬ (k ≡ first) → ¬ (k ≡ directory) → new k ≡ old k

-- one or the other
abbrev pub Shrinks : ℕ → PageMap → PageMap → ℕ → ℕ → ℕ → BucketContent → List ℕ → Type 0
Shrinks dims old new directory class first c page = Shortens dims old new first c
    ⊎ Unlinks old new directory class first c page

-- A bucket page lost its last object, where it has more; where it has one, the next page of its chain was
-- told.
pub record PopsLast (dims : ℕ) (old new : List ℕ) (told : Option ℕ) : Type 0 where
  pub popped : told ≡ None → (c : BucketContent) → bucket_at dims old ≡ Some c
      → (1 < length c.entries) × (bucket_at dims new ≡ Some (popped c))
  pub only : (next : ℕ) → told ≡ Some next → (c : BucketContent) → bucket_at dims old ≡ Some c
      → (length c.entries ≡ 1) × (next ≡ c.next)
  pub tidy : (c : BucketContent) → bucket_at dims old ≡ Some c → IsTidyPage dims old → IsTidyPage dims new

-- the pages of a part are no longer live, and all others stay
pub record Frees (old new : PageMap) (part : Part) : Type 0 where
  pub gone : (n : ℕ) → 0 < part n → new n ≡ None
  pub others : (n : ℕ) → part n ≡ 0 → new n ≡ old n

-- ---- many objects at once

-- the remainder of the identifier of the first object
abbrev pub first_class : List Entry → ℕ
first_class [] = 0
first_class (object ∷ objects) = class_of object.0

-- the first objects, so many and at least one, have this remainder
pub record IsRun (class : ℕ) (objects : List Entry) (count : ℕ) : Type 0 where
  pub some : 0 < count
  pub few : count ≤ length objects
  pub placed : All (λ object. class_of object.0 ≡ class) (take count objects)

-- The remainder of the next object, and a greater one where there is none.
abbrev pub next_class : List Entry → ℕ
next_class [] = 1000
next_class (object ∷ objects) = class_of object.0

-- a run that ends where a page is full, or at an object of another remainder
abbrev pub IsWholeRun : List Entry → ℕ → Type 0
IsWholeRun objects count = (100 ≤ count) ⊎ (¬ (next_class (drop count objects) ≡ first_class objects))

-- a bucket with these objects after its own
abbrev pub with_more : BucketContent → List Entry → BucketContent
with_more c objects = record { next = c.next; entries = c.entries ++ objects }

-- A run of objects is added to a bucket page that has room, which tells how many.
pub record PushesRun (dims class : ℕ) (objects : List Entry) (old new : List ℕ) (told : Option ℕ) : Type
    0 where
  pub run : IfSome told (IsRun class objects)
  pub pushed : (c : BucketContent) → bucket_at dims old ≡ Some c → length c.entries < 100
      → IsSomeAnd told (λ count. bucket_at dims new ≡ Some (with_more c (take count objects)))
  pub tidy : (c : BucketContent) → bucket_at dims old ≡ Some c → IsTidyPage dims old → IsTidyPage dims new
