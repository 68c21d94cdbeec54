-- Walks along the chains of an identifier table, as searches and changes make them: a page on the way has to
-- begin as a bucket does, and its objects are not looked at (our rule, docs/FORMAT.md, "Identifier tables").
use Rattle.std.specs.Prelude.{◌≡◌, ◌⊎◌, ◌<◌, ℕ, List, [], ◌∷◌, Option, Some, IsSome}
use Rattle.block_bytes.specs.Numbers.{number_at}
use Rattle.bucket_page.specs.Layout.{HasBucketHead}
use Rattle.node_page.specs.Standing.{PageMap}
use Rattle.page_cache.specs.Cache.{IsPageMap, given, pages}
use Rattle.page_cache.specs.declared.cache.PageCache.{PageCache}
use Rattle.id_chains.specs.Table.{IsDirectory, bucket_in, link_at}

-- a page begins as a bucket, and names this one as the next
abbrev pub NamesNext : ℕ → Option (List ℕ) → ℕ → Type 0
NamesNext dims page next = (bytes : List ℕ) × (page ≡ Some bytes) × HasBucketHead dims bytes
    × (number_at 4 4 bytes ≡ next)

-- it begins as a directory, and names this one as the first of the chain of a remainder
abbrev pub NamesFirst : ℕ → Option (List ℕ) → ℕ → ℕ → Type 0
NamesFirst dims page class first = (bytes : List ℕ) × (page ≡ Some bytes) × IsDirectory dims bytes
    × (link_at class bytes ≡ first)

-- a walk leads from one page to another, each time to the page that the one before names
abbrev pub PassesAlong : ℕ → PageMap → ℕ → List ℕ → ℕ → Type 0
PassesAlong dims pages page [] last = last ≡ page
PassesAlong dims pages page (next ∷ walk) last =
    NamesNext dims (pages page) next × PassesAlong dims pages next walk last

-- some walk does
abbrev pub IsAlong : ℕ → PageMap → ℕ → ℕ → Type 0
IsAlong dims pages first last = (walk : List ℕ) × PassesAlong dims pages first walk last

-- some walk from the first page of a chain meets a page, and not the end of the chain
abbrev pub MeetsAlong : ℕ → PageMap → ℕ → ℕ → Type 0
MeetsAlong dims pages first last = (¬ (last ≡ 0)) × IsAlong dims pages first last

-- it meets one that begins as a bucket
abbrev pub MeetsBucket : ℕ → PageMap → ℕ → ℕ → Type 0
MeetsBucket dims pages first last = ((next : ℕ) × NamesNext dims (pages last) next)
    × IsAlong dims pages first last

-- the page is where the directory has to be, or one that a walk meets along the chain of a remainder
abbrev pub MeetsInChain : ℕ → PageMap → ℕ → ℕ → ℕ → Type 0
MeetsInChain dims pages directory class last =
    (last ≡ directory)
    ⊎ ((first : ℕ) × NamesFirst dims (pages directory) class first × MeetsAlong dims pages first last)

-- so it is with some chain of the table
abbrev pub MeetsInTable : ℕ → PageMap → ℕ → ℕ → Type 0
MeetsInTable dims pages directory last = (class : ℕ) × (class < 1000)
    × MeetsInChain dims pages directory class last

-- the page is where the directory has to be, or the first one of the chain of a remainder
abbrev pub BeginsChain : ℕ → PageMap → ℕ → ℕ → ℕ → Type 0
BeginsChain dims pages directory class first =
    (first ≡ directory) ⊎ ((¬ (first ≡ 0)) × NamesFirst dims (pages directory) class first)

-- so it is with some chain of the table
abbrev pub BeginsInTable : ℕ → PageMap → ℕ → ℕ → Type 0
BeginsInTable dims pages directory first = (class : ℕ) × (class < 1000)
    × BeginsChain dims pages directory class first

-- pages after a change: none names a next one that it did not name before
abbrev pub NamesNoMore : ℕ → PageMap → PageMap → Type 0
NamesNoMore dims old new = (page next : ℕ) → NamesNext dims (new page) next → NamesNext dims (old page) next

-- a page of the map spells a bucket
abbrev pub IsBucket : ℕ → Option (List ℕ) → Type 0
IsBucket dims page = IsSome (bucket_in dims page)

-- Objects were added with a sound map: it stays sound, what the directory names as the first page of a chain
-- it named before, or is a bucket, and buckets stay buckets.
pub record KeepsFirst {D A : Type 0} {m : _} (dims directory : ℕ) (old new : PageCache D A m) : Type 0 where
  pub sound : IsPageMap new
  pub first : (class first : ℕ) → NamesFirst dims (given new directory) class first
      → NamesFirst dims (given old directory) class first ⊎ IsBucket dims (pages new first)
  pub buckets : (n : ℕ) → IsBucket dims (pages old n) → IsBucket dims (pages new n)
