-- What live layers keep, what they stand for, and what stops leave of their cache.
use Rattle.std.specs.Prelude.{ℕ, ◌≡◌, ◌≤◌, true, List, Some}
use Rattle.std.specs.FinMap.{entries}
use Rattle.std.specs.Ordering.{nat_cmp}
use Rattle.std.specs.Cmp.Lexicographic.{slice_cmp}
use Rattle.std.specs.List.{Contains, HoldsAt}
use Rattle.block_device.specs.Device.{Blocks}
use Rattle.catalog_page.specs.Layout.{Record, records_of}
use Rattle.page_cache.specs.Cache.{IsPageMap, blocks_of, device_of, gate_of, looks_of, next_of, pages}
use Rattle.page_cache.specs.Cache.{version_of}
use Rattle.page_cache.specs.declared.cache.PageCache.{PageCache}
use Rattle.page_file.specs.Stops.{SameButGate}
use Rattle.page_file.specs.declared.gate.Gate.TheVariants.{Shut, Open}
use Rattle.page_file.specs.declared.header.Version.{Version}
use Rattle.plain_table.specs.Table.{Table, Layer, most_objects, object_count}
use Rattle.store_law.specs.Stops.{AfterStop, Stops, tables_left}
use Rattle.store_law.specs.Stops.AfterStop.{Surely, Perhaps}
use Rattle.tree_node.specs.Searches.{counted}
use Rattle.tree_node.specs.Trees.{Tree}
use Rattle.plain_table.specs.Entries.{BelongsAt, IsEntryAt}
use Rattle.live_layers.specs.Image.{CommitsWhatOpens, IsImage, IsImageOfOne, IsRefusedOrImageOf}
use Rattle.live_layers.specs.Layers.{Holds, IsTreeOf, catalog_in}
use Rattle.live_layers.specs.declared.layers.Layers.{Layers}

-- where their answers take memory from
abbrev pub alloc_of : {D A : Type 0} {m : _} → Layers D A m → A
alloc_of kept = kept.alloc

-- the cache of their pages, and the records of the layers
abbrev pub cache_of : {D A : Type 0} {m : _} → Layers D A m → PageCache D A m
cache_of kept = kept.cache

abbrev pub records_in : {D A : Type 0} {m : _} → Layers D A m → List Record
records_in kept = records_of kept.records

-- how many objects they count in all layers together
abbrev pub count_in : {D A : Type 0} {m : _} → Layers D A m → ℕ
count_in kept = kept.object_count

-- the version that the file may be raised to
abbrev pub newest_of : {D A : Type 0} {m : _} → Layers D A m → Version
newest_of kept = kept.newest

-- page 2 spells the records, so nothing is to be written but what the cache holds
abbrev pub IsWritten : {D A : Type 0} {m : _} → Layers D A m → Type 0
IsWritten kept = kept.written ≡ true

-- page 2 spells them
abbrev pub SpellsRecords : {D A : Type 0} {m : _} → Layers D A m → Type 0
SpellsRecords kept = catalog_in (pages (cache_of kept)) ≡ Some (records_in kept)

-- It does so where nothing was changed since the last closing, or the last that was tried: behind a gate that
-- is not open.
abbrev pub SpellsUnchanged : {D A : Type 0} {m : _} → Layers D A m → Type 0
SpellsUnchanged kept = ¬ (gate_of (cache_of kept) ≡ Open) → SpellsRecords kept

-- nothing is to be written at all: the gate is shut, too
abbrev pub IsSettled : {D A : Type 0} {m : _} → Layers D A m → Type 0
IsSettled kept = (gate_of kept.cache ≡ Shut) × IsWritten kept

-- The layers are sound with this table: with their records the pages of an honest device hold it, and page 2
-- spells them where they were written.
pub record IsSound {D A : Type 0} {m : _} (kept : Layers D A m) (t : Table) : Type 0 where
  pub map : IsPageMap kept.cache
  pub holds : Holds (pages (cache_of kept)) (next_of (cache_of kept)) (version_of (cache_of kept))
      (records_in kept) t
  pub counted : kept.object_count ≡ object_count t
  pub within : kept.object_count ≤ most_objects
  pub catalog : IsWritten kept → catalog_in (pages (cache_of kept)) ≡ Some (records_in kept)

-- the layer of this name stands at this place of the table
pub record Finds (t : Table) (name : List ℕ) (place : ℕ) : Type 0 where
  pub stands : IsEntryAt (slice_cmp nat_cmp) (entries t) name place
  pub named : HoldsAt (λ (e : List ℕ × Layer). e.0 ≡ name) (entries t) place

-- no layer has this name, and a new one goes to this place
abbrev pub Belongs : Table → List ℕ → ℕ → Type 0
Belongs t name place = BelongsAt (slice_cmp nat_cmp) (entries t) name place

-- At rest a stop leaves of the cache blocks that opening refuses, or an image of one of these tables: its
-- gate is open, or its blocks are so whatever their gate.
abbrev pub RestLeavesOneOf : {D A : Type 0} {m : _} → PageCache D A m → List Table → Type 0
RestLeavesOneOf cache ts = ¬ (gate_of cache ≡ Open) → (c : Blocks) → SameButGate c (blocks_of cache)
    → IsRefusedOrImageOf ts c

-- What a stop leaves of the cache at rest: behind a shut gate the blocks as they are, an image of the table;
-- or blocks that opening refuses, or an image of one of these tables.
abbrev pub LeavesAtRest : {D A : Type 0} {m : _} → PageCache D A m → AfterStop → Type 0
LeavesAtRest cache (Surely t) = (gate_of cache ≡ Shut) × IsImage (blocks_of cache) t
LeavesAtRest cache (Perhaps ts) = RestLeavesOneOf cache ts

-- What stops are found to have left of the cache over a device that commits what opening takes: now, and
-- since the beginning, an image of one of these tables.
pub record IsFound {D A : Type 0} {m : _} (cache : PageCache D A m) (since : ℕ)
    (kept kept_so_far : List Table) : Type 0 where
  pub now : (k : Blocks) → m.recovery.commits (device_of cache) k → IsImageOfOne kept k
  pub so_far : (c : Blocks) → m.recovery.found_since (device_of cache) since c → IsImageOfOne kept_so_far c

-- What stops leave of the cache: one now; and of one since the beginning blocks that opening refuses, or an
-- image of one of the tables so far, among which are those that one now may leave; and what stops are found
-- to have left.
pub record Leaves {D A : Type 0} {m : _} (cache : PageCache D A m) (stops : Stops) : Type 0 where
  pub now : LeavesAtRest cache stops.now
  pub begun : stops.since ≤ m.moment (device_of cache)
  pub so_far : (c : Blocks) → m.left_since (device_of cache) stops.since c → IsRefusedOrImageOf stops.so_far c
  pub among : (t : Table) → Contains (tables_left stops.now) t → Contains stops.so_far t
  pub kept_among : (t : Table) → Contains (tables_left stops.now) t → Contains stops.kept t
  pub kept_before : (t : Table) → Contains stops.kept t → Contains stops.kept_so_far t
  pub found : CommitsWhatOpens m.recovery → IsFound cache stops.since stops.kept stops.kept_so_far

-- the layer of this name has this tree
abbrev pub HasTree : {D A : Type 0} {m : _} → Layers D A m → List ℕ → Tree → Type 0
HasTree kept name t = IsTreeOf (pages (cache_of kept)) (records_in kept) name t

-- the looks rose by what is counted of the tree of the layer of this name
pub record LooksAtTree {D A : Type 0} {m : _} (old new : Layers D A m) (name : List ℕ)
    (count : Tree → ℕ) : Type 0 where
  pub tree : Tree
  pub is_tree : HasTree old name tree
  pub looks : looks_of new.cache ≡ counted (looks_of old.cache) (count tree)

-- the tree of the layer of this name became another one by this rule, and those of all other layers stay
pub record ChangesTree {D A : Type 0} {m : _} (old new : Layers D A m) (name : List ℕ)
    (Rule : Tree → Tree → Type 0) : Type 0 where
  pub was : Tree
  pub now : Tree
  pub before : HasTree old name was
  pub after : HasTree new name now
  pub rule : Rule was now
  pub others : (other : List ℕ) (t : Tree) → ¬ (other ≡ name) → HasTree old other t → HasTree new other t
