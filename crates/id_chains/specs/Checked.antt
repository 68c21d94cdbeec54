-- What a check of an identifier table finds (our rule, docs/FORMAT.md, "Identifier tables").
use Rattle.std.specs.Prelude.{◌≡◌, ◌⊎◌, ℕ, Bool, true, ◌+◌, ◌<◌, ◌≤◌, List, ◌∷◌, [], ◌++◌, All, Some, length}
use Rattle.std.specs.Prelude.{slice_index_or, sum_by}
use Rattle.std.specs.BTreeSet.{BTreeSet}
use Rattle.std.specs.List.{flat_map}
use Rattle.bucket_page.specs.Layout.{BucketContent, Entry}
use Rattle.node_page.specs.Checked.{named_pages}
use Rattle.node_page.specs.Standing.{PageMap}
use Rattle.id_words.specs.Seen.{seen_times}
use Rattle.id_chains.specs.Table.{Bucket, ChainStands, IdChains, IdChainsStand, IsDirectory, IsFilled, bucket_in}
use Rattle.id_chains.specs.Table.{class_of, entries_in, entries_of, link_at, occurs_in_chain, part_of}
use Rattle.id_words.specs.Objects.{times_in}

-- the pages stand for a table with its directory at this page, with these objects chain after chain, and with
-- these pages
pub record IsCheckedTable (dims : ℕ) (pages : PageMap) (directory : ℕ) (pairs : List Entry)
    (list : List ℕ) : Type 0 where
  pub table : IdChains
  pub page_is : table.page ≡ directory
  pub stands : IdChainsStand dims pages table
  pub pairs_are : pairs ≡ entries_of table
  pub pages_are : (n : ℕ) → named_pages list n ≡ part_of table n

-- ---- its steps

-- objects of a chain were appended to those before: each has its remainder, and an identifier that was not
-- seen before
pub record AddsObjects (class : ℕ) (objects pairs_before pairs : List Entry)
    (seen_before seen : BTreeSet ℕ) : Type 0 where
  pub pairs_are : pairs ≡ pairs_before ++ objects
  pub placed : All (λ object. class_of object.0 ≡ class) objects
  pub seen_are : (id : ℕ) → seen_times seen id ≡ seen_times seen_before id + times_in id objects

-- the objects of the bucket at a page were appended, and its page; where it has to be it is full
pub record AddsBucket (dims : ℕ) (pages : PageMap) (class number next : ℕ) (whole : Bool)
    (pairs_before pairs : List Entry) (list_before list : List ℕ) (seen_before seen : BTreeSet ℕ) : Type
    0 where
  pub entries : List Entry
  pub low : 2 < number
  pub there : bucket_in dims (pages number) ≡ Some (record { next = next; entries = entries })
  pub full : whole ≡ true → length entries ≡ 100
  pub objects : AddsObjects class entries pairs_before pairs seen_before seen
  pub visited : list ≡ list_before ++ number ∷ []

-- a bucket that may come next in a chain, beside the pages and the identifiers before it
pub record MayFollow (class number : ℕ) (whole : Bool) (c : BucketContent) (list : List ℕ)
    (seen : BTreeSet ℕ) : Type 0 where
  pub low : 2 < number
  pub unvisited : named_pages list number ≡ 0
  pub full : whole ≡ true → length c.entries ≡ 100
  pub placed : All (λ object. class_of object.0 ≡ class) c.entries
  pub single : (id : ℕ) → seen_times seen id + times_in id c.entries ≤ 1

-- a chain stands from a page on, filled: its objects and its pages were appended
pub record AddsChain (dims : ℕ) (pages : PageMap) (class first : ℕ) (pairs_before pairs : List Entry)
    (list_before list : List ℕ) : Type 0 where
  pub chain : List Bucket
  pub stands : ChainStands dims pages first chain
  pub filled : IsFilled class chain
  pub pairs_are : pairs ≡ pairs_before ++ entries_in chain
  pub pages_are : (n : ℕ) → named_pages list n ≡ named_pages list_before n + occurs_in_chain n chain

-- so do the first chains that a directory names
pub record AddsChains (dims : ℕ) (pages : PageMap) (directory : List ℕ) (count : ℕ)
    (pairs_before pairs : List Entry) (list_before list : List ℕ) : Type 0 where
  pub chains : List (List Bucket)
  pub whole : length chains ≡ count
  pub stands : (class : ℕ) → class < count
      → ChainStands dims pages (link_at class directory) (slice_index_or chains class [])
  pub filled : (class : ℕ) → class < count → IsFilled class (slice_index_or chains class [])
  pub pairs_are : pairs ≡ pairs_before ++ flat_map entries_in chains
  pub pages_are : (n : ℕ) → named_pages list n ≡ named_pages list_before n + sum_by (occurs_in_chain n) chains

-- as many chains as these stand as the directory names them, filled, on pages of their own
pub record MayStand (dims : ℕ) (pages : PageMap) (directory : List ℕ) (chains : List (List Bucket))
    (list : List ℕ) : Type 0 where
  pub stands : (class : ℕ) → class < length chains
      → ChainStands dims pages (link_at class directory) (slice_index_or chains class [])
  pub filled : (class : ℕ) → class < length chains → IsFilled class (slice_index_or chains class [])
  pub once : (n : ℕ) → named_pages list n + sum_by (occurs_in_chain n) chains ≤ 1

-- ---- the page that is damaged where no such table stands

-- a walk along a chain leads from one page to another, each time to the page that the bucket of the one
-- before names
abbrev pub LeadsAlong : ℕ → PageMap → ℕ → List ℕ → ℕ → Type 0
LeadsAlong dims pages page [] last = last ≡ page
LeadsAlong dims pages page (next ∷ walk) last =
    ((c : BucketContent) × (bucket_in dims (pages page) ≡ Some c) × (c.next ≡ next))
    × LeadsAlong dims pages next walk last

-- some walk from the first page of a chain comes to a page, and not to its end
abbrev pub ComesAlong : ℕ → PageMap → ℕ → ℕ → Type 0
ComesAlong dims pages first last = (¬ (last ≡ 0)) × (walk : List ℕ) × LeadsAlong dims pages first walk last

-- so does one along a chain that a directory names
abbrev pub ComesFrom : ℕ → PageMap → List ℕ → ℕ → Type 0
ComesFrom dims pages directory last = (class : ℕ) × (class < 1000)
    × ComesAlong dims pages (link_at class directory) last

-- the page is where the directory has to be, or one of a chain that it names
abbrev pub ComesInTable : ℕ → PageMap → ℕ → ℕ → Type 0
ComesInTable dims pages directory last =
    (last ≡ directory)
    ⊎ ((bytes : List ℕ) × (pages directory ≡ Some bytes) × IsDirectory dims bytes
    × ComesFrom dims pages bytes last)
