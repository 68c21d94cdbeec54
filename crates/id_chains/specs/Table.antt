-- Identifier tables, and the pages that they stand in (our rule, docs/FORMAT.md, "Identifier tables"): a
-- directory, and for each remainder of an identifier by 1000 a chain of buckets.
use Rattle.std.specs.Prelude.{◌≡◌, ℕ, ◌+◌, ◌*◌, ◌%◌, ◌<◌, ◌≤◌, List, [], ◌∷◌, length, drop, slice_index_or}
use Rattle.std.specs.Prelude.{All, Option, Some, if◌then◌else◌, ◌==◌, option_and_then, sum_by}
use Rattle.std.specs.FinMap.{FinMap, from_entries}
use Rattle.std.specs.List.{flat_map}
use Rattle.std.specs.Ordering.{nat_cmp}
use Rattle.block_bytes.specs.Kinds.{directory_kind}
use Rattle.block_bytes.specs.Numbers.{number_at}
use Rattle.box_math.specs.Objects.{Object}
use Rattle.bucket_page.specs.Layout.{BucketContent, Entry, bucket_at}
use Rattle.node_page.specs.Parts.{Part}
use Rattle.node_page.specs.Standing.{PageMap}
use Rattle.id_words.specs.Objects.{times_in}

-- a bucket: its page and its objects
pub record Bucket : Type 0 where
  pub page : ℕ
  pub entries : List Entry

-- a table: the page of its directory, and its chains by remainder
pub record IdChains : Type 0 where
  pub page : ℕ
  pub chains : List (List Bucket)

-- ---- what it holds

abbrev pub entries_in : List Bucket → List Entry
entries_in bs = flat_map (λ b. b.entries) bs

-- the objects, chain after chain
abbrev pub entries_of : IdChains → List Entry
entries_of t = flat_map entries_in t.chains

-- as a map from identifier to what is kept of the object
abbrev pub objects_of : IdChains → FinMap nat_cmp Object
objects_of t = from_entries (entries_of t)

-- the remainder of an identifier, and the chain of a remainder
abbrev pub class_of : ℕ → ℕ
class_of id = id % 1000

abbrev pub chain_at : IdChains → ℕ → List Bucket
chain_at t class = slice_index_or t.chains class []

-- how often a page occurs in a chain, and in the whole table
abbrev pub occurs_in_chain : ℕ → List Bucket → ℕ
occurs_in_chain n [] = 0
occurs_in_chain n (b ∷ bs) = (if b.page == n then 1 else 0) + occurs_in_chain n bs

abbrev pub occurs_in_ids : ℕ → IdChains → ℕ
occurs_in_ids n t = (if t.page == n then 1 else 0) + sum_by (occurs_in_chain n) t.chains

-- its part of the pages
abbrev pub part_of : IdChains → Part
part_of t n = occurs_in_ids n t

-- ---- the pages that it stands in

-- the bucket in a page, if it is there and spells one
abbrev pub bucket_in : ℕ → Option (List ℕ) → Option BucketContent
bucket_in dims page = option_and_then (bucket_at dims) page

-- a chain stands from this page on, 0 for none: each bucket names the next, and none is in the pages before 3
abbrev pub ChainStands : ℕ → PageMap → ℕ → List Bucket → Type 0
ChainStands dims pages first [] = first ≡ 0
ChainStands dims pages first (b ∷ bs) =
    (first ≡ b.page) × (2 < first) × (next : ℕ)
    × (bucket_in dims (pages b.page) ≡ Some (record { next = next; entries = b.entries }))
    × ChainStands dims pages next bs

-- every bucket of a chain but the first is full, the identifiers of all have the remainder, and none is there
-- twice
pub record IsFilled (class : ℕ) (chain : List Bucket) : Type 0 where
  pub full : All (λ b. length b.entries ≡ 100) (drop 1 chain)
  pub placed : All (λ object. class_of object.0 ≡ class) (entries_in chain)
  pub single : (id : ℕ) → times_in id (entries_in chain) ≤ 1

-- where the directory has the first page of the chain of a remainder, and that page
abbrev pub link_place : ℕ → ℕ
link_place class = 16 + 4 * class

abbrev pub link_at : ℕ → List ℕ → ℕ
link_at class directory = number_at 4 (link_place class) directory

-- a page begins as a directory of this dimension
pub record IsDirectory (dims : ℕ) (page : List ℕ) : Type 0 where
  pub kind : number_at 1 0 page ≡ directory_kind
  pub dims_is : number_at 1 1 page ≡ dims

-- the pages stand for the table: no page is in it twice
pub record IdChainsStand (dims : ℕ) (pages : PageMap) (t : IdChains) : Type 0 where
  pub directory : List ℕ
  pub there : pages t.page ≡ Some directory
  pub low : 2 < t.page
  pub spelled : IsDirectory dims directory
  pub whole : length t.chains ≡ 1000
  pub chains : (class : ℕ) → class < 1000
      → ChainStands dims pages (link_at class directory) (chain_at t class)
  pub filled : (class : ℕ) → class < 1000 → IsFilled class (chain_at t class)
  pub once : (n : ℕ) → occurs_in_ids n t ≤ 1
