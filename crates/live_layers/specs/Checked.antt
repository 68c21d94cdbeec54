-- What a check of all pages finds (our rule, docs/FORMAT.md, "Opening").
use Rattle.std.specs.Prelude.{ℕ, ◌≡◌, ◌+◌, ◌<◌, ◌≤◌, ◌⊎◌, List, [], ◌∷◌, ◌++◌, Contains, map}
use Rattle.catalog_page.specs.Layout.{Record, records_of}
use Rattle.layer_pages.specs.Checked.{ComesInLayer}
use Rattle.node_page.specs.Checked.{named_pages}
use Rattle.node_page.specs.Parts.{IsAllOf}
use Rattle.node_page.specs.Standing.{PageMap}
use Rattle.page_cache.specs.Cache.{BreaksAt, KeepsMap, free_of, given, next_of, pages, version_of}
use Rattle.page_cache.specs.declared.cache.PageCache.{PageCache}
use Rattle.page_file.specs.Fault.{IsDamage, IsOfDevice}
use Rattle.page_file.specs.declared.fault.Fault.{Fault}
use Rattle.page_file.specs.declared.header.Version.{Version}
use Rattle.plain_table.specs.Table.{Table}
use Rattle.plain_table.specs.declared.refusal.Refusal.{Refusal}
use Rattle.live_layers.specs.Faults.{as_refusal}
use Rattle.live_layers.specs.Keeping.{IsSound}
use Rattle.live_layers.specs.Layers.{AllowsTable, AllowsTables, LayerStands, LayersStand, Reading, in_use}
use Rattle.live_layers.specs.Layers.{of_layer, of_layers, root_of, row_of}
use Rattle.live_layers.specs.declared.layers.Layers.{Layers}

-- the layers are sound with some table
abbrev pub IsFoundSound : {D A : Type 0} {m : _} → Layers D A m → Type 0
IsFoundSound kept = (t : Table) × IsSound kept t

-- want of memory, a device that failed, or damage
abbrev pub IsCheckRefusal : Refusal → Type 0
IsCheckRefusal r = (f : Fault) × (r ≡ as_refusal f) × (IsOfDevice f ⊎ IsDamage f)

-- a walk through one of the layers comes to the page
abbrev pub ComesInLayers : PageMap → List Record → ℕ → Type 0
ComesInLayers pages records n = (r : Record) × Contains records r
    × ComesInLayer r.dims pages (root_of r) r.ids_root n

-- the layers of the records stand in the pages of a file of this version, which allows their tables, and the
-- live pages are those in use and no others, each in one place
pub record FindsLayers (pages : PageMap) (version : Version) (records : List Record) : Type 0 where
  pub layers : List Reading
  pub rows : map row_of layers ≡ records
  pub stand : LayersStand pages layers
  pub allowed : AllowsTables version layers
  pub used : IsAllOf pages (in_use layers)

-- ---- its steps

-- the layer of a record stands, with a table that the version allows, and its pages were appended to a list
pub record AddsLayer (pages : PageMap) (version : Version) (r : Record) (before now : List ℕ) : Type 0 where
  pub layer : Reading
  pub row : layer.row ≡ r
  pub stands : LayerStands pages layer
  pub allowed : AllowsTable version layer
  pub listed : (n : ℕ) → named_pages now n ≡ named_pages before n + of_layer layer n

-- the same of the layers of records
pub record AddsLayers (pages : PageMap) (version : Version) (records : List Record) (before now : List ℕ)
    : Type 0 where
  pub layers : List Reading
  pub rows : map row_of layers ≡ records
  pub stand : LayersStand pages layers
  pub allowed : AllowsTables version layers
  pub listed : (n : ℕ) → named_pages now n ≡ named_pages before n + of_layers layers n

-- page n is none that was given out, or stands not just once in the list
abbrev pub IsOdd : ℕ → List ℕ → ℕ → Type 0
IsOdd next list n = (n < 2) ⊎ ((next ≤ n) ⊎ ¬ (named_pages list n ≡ 1))

-- What a check names as damaged: the page at which the chain of free pages breaks, one that a walk through a
-- layer comes to, or, where all of these stand, one that does not stand in just one of them.
abbrev pub IsFoundDamaged : {D A : Type 0} {m : _} → PageCache D A m → List Record → ℕ → Type 0
IsFoundDamaged cache records n = BreaksAt cache n
    ⊎ (ComesInLayers (given cache) records n
    ⊎ ((list : List ℕ) × AddsLayers (pages cache) (version_of cache) records (free_of cache ++ 2 ∷ []) list
    × IsOdd (next_of cache) list n))

-- the list has each page once whose number is below one, from the catalog on, and no other
pub record NamesEach (next : ℕ) (list : List ℕ) : Type 0 where
  pub once : (n : ℕ) → 2 ≤ n → n < next → named_pages list n ≡ 1
  pub given : (n : ℕ) → 0 < named_pages list n → (2 ≤ n) × (n < next)

-- the catalog, or what a check of the pages names as damaged, on a cache with the same map
abbrev pub IsNamedDamaged : {D A : Type 0} {m : _} → Layers D A m → ℕ → Type 0
IsNamedDamaged {D = D} {A = A} {m = m} kept n = (n ≡ 2)
    ⊎ ((cache : PageCache D A m) × KeepsMap kept.cache cache
    × IsFoundDamaged cache (records_of kept.records) n)
