-- Which blocks are an image of a table, and why opening refuses others (our rule, docs/FORMAT.md, "Opening").
use Rattle.std.specs.Prelude.{ℕ, ◌≡◌, ◌⊎◌, ◌↔◌, false, List, Some, None}
use Rattle.std.specs.List.{Contains}
use Rattle.block_device.specs.Device.{Blocks, Recovery}
use Rattle.catalog_page.specs.Layout.{Record}
use Rattle.node_page.specs.Standing.{PageMap}
use Rattle.page_file.specs.Layout.{opened_version}
use Rattle.page_file.specs.Opening.{IsRefused, failed_check, failed_check_up_to}
use Rattle.page_file.specs.Pages.{IsSoundMap, next_in, pages_in}
use Rattle.page_file.specs.declared.fault.Fault.{Fault}
use Rattle.page_file.specs.declared.fault.Fault.TheVariants.{Damaged}
use Rattle.page_file.specs.declared.header.Version.{Version}
use Rattle.plain_table.specs.Table.{Table}
use Rattle.store_law.specs.Stops.{AfterStop}
use Rattle.store_law.specs.Stops.AfterStop.{Surely, Perhaps}
use Rattle.live_layers.specs.Catalog.{is_good_catalog}
use Rattle.tree_node.specs.Trees.{Tree}
use Rattle.live_layers.specs.Layers.{Holds, IsTreeOf, catalog_in}

-- Blocks are an image of the table: their gate is shut, gate and header pass the checks of opening, the free
-- pages are a chain, and the live ones are the catalog and the pages of the layers that it names, which hold
-- the table, with identifier tables that the header's version allows.
pub record IsImage (blocks : Blocks) (t : Table) : Type 0 where
  pub passes : failed_check blocks ≡ None
  pub free : IsSoundMap blocks
  pub records : List Record
  pub spelled : catalog_in (pages_in blocks) ≡ Some records
  pub holds : Holds (pages_in blocks) (next_in blocks) (opened_version blocks) records t

-- the layer of this name that the catalog names has this tree
pub record IsTreeIn (blocks : Blocks) (name : List ℕ) (t : Tree) : Type 0 where
  pub records : List Record
  pub spelled : catalog_in (pages_in blocks) ≡ Some records
  pub tree : IsTreeOf (pages_in blocks) records name t

-- ---- what a stop may leave

-- an image of one of these tables
abbrev pub IsImageOfOne : List Table → Blocks → Type 0
IsImageOfOne ts c = (u : Table) × Contains ts u × IsImage c u

-- blocks that opening refuses, or an image of one of these tables
abbrev pub IsRefusedOrImageOf : List Table → Blocks → Type 0
IsRefusedOrImageOf ts c = IsRefused c ⊎ IsImageOfOne ts c

-- what a stop between two requests leaves, as it is told of a store
abbrev pub MayRemain : AfterStop → Blocks → Type 0
MayRemain (Surely t) c = IsImage c t
MayRemain (Perhaps ts) c = IsRefusedOrImageOf ts c

-- a device that commits just what opening does not refuse by a check
abbrev pub CommitsWhatOpens : {D : Type 0} → Recovery D → Type 0
CommitsWhatOpens recovery = (k : Blocks) → recovery.takes k ↔ (failed_check k ≡ None)

-- ---- what is no image

-- no good catalog stands in page 2
abbrev pub HasNoCatalog : PageMap → ℕ → Type 0
HasNoCatalog pages next = (records : List Record) → catalog_in pages ≡ Some records
    → is_good_catalog next records ≡ false

-- Opening answers this fault: that of the first check of gate and header that fails, or else that the catalog
-- is damaged. It reads no other page.
abbrev pub OpeningRefuses : Blocks → Fault → Type 0
OpeningRefuses blocks f = (failed_check blocks ≡ Some f)
    ⊎ ((failed_check blocks ≡ None) × (f ≡ Damaged 2) × HasNoCatalog (pages_in blocks) (next_in blocks))

-- and so it does where no version above `newest` is read
abbrev pub OpeningRefusesUpTo : Version → Blocks → Fault → Type 0
OpeningRefusesUpTo newest blocks f = (failed_check_up_to newest blocks ≡ Some f)
    ⊎ ((failed_check_up_to newest blocks ≡ None) × (f ≡ Damaged 2)
    × HasNoCatalog (pages_in blocks) (next_in blocks))
