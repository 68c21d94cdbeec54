-- What the pages hold of a table: for each layer a tree and an identifier table with the same objects (our
-- rule, docs/FORMAT.md, "Trees of pages" and "Identifier tables").
use Rattle.std.specs.Prelude.{◌≡◌, ℕ, ◌+◌, IsTrue, List, [], ◌∷◌, length, map, Option, option_and_then, ⊤}
use Rattle.std.specs.FinMap.{entries}
use Rattle.std.specs.List.{All, Contains}
use Rattle.catalog_page.specs.Layout.{Record, records_at}
use Rattle.id_table.specs.Table.{kind_of}
use Rattle.id_table.specs.declared.kind.TableKind.TheVariants.{Chains}
use Rattle.layer_pages.specs.Layers.{IsLayerAt, LayerPages, part_of_layer}
use Rattle.node_page.specs.Parts.{IsAllOf, Part, both, one_page}
use Rattle.node_page.specs.Rooted.{IsTreeAt}
use Rattle.node_page.specs.Standing.{PageMap}
use Rattle.page_file.specs.declared.header.Version.{Version}
use Rattle.page_file.specs.declared.header.Version.TheVariants.{Two}
use Rattle.plain_table.specs.Table.{Table, Layer}
use Rattle.tree_node.specs.Trees.{Tree}
use Rattle.tree_node.specs.declared.node.Root.{Root}
use Rattle.live_layers.specs.Catalog.{is_good_catalog}

-- what is read of a layer: its record, its pages, and the layer that they hold
pub record Reading : Type 0 where
  pub row : Record
  pub pages : LayerPages
  pub layer : Layer

-- the layer under its name
abbrev pub entry_of : Reading → List ℕ × Layer
entry_of h = (h.row.name, h.layer)

-- the record, and the root that a record names
abbrev pub row_of : Reading → Record
row_of h = h.row

abbrev pub root_of : Record → Root
root_of r = record { page = r.root; level = r.level }

-- the pages stand for the layer where its record says, and the record has its dimension, fanout and count of
-- objects
pub record LayerStands (pages : PageMap) (h : Reading) : Type 0 where
  pub at : IsLayerAt h.row.dims h.row.fanout pages (root_of h.row) h.row.ids_root h.pages h.layer.objects
  pub dims : h.layer.dims ≡ h.row.dims
  pub fanout : h.layer.fanout ≡ h.row.fanout
  pub count : length (entries h.layer.objects) ≡ h.row.count

-- of each layer
abbrev pub LayersStand : PageMap → List Reading → Type 0
LayersStand pages [] = ⊤
LayersStand pages (h ∷ hs) = LayerStands pages h × LayersStand pages hs

-- a file of this version may have the identifier table of a layer: below version 3 it is of chains
abbrev pub AllowsTable : Version → Reading → Type 0
AllowsTable version h = version ≡ Two → kind_of h.pages.ids ≡ Chains

-- and those of all of these
abbrev pub AllowsTables : Version → List Reading → Type 0
AllowsTables version hs = All (AllowsTable version) hs

-- ---- the pages in use

-- the page of the catalog
abbrev pub of_catalog : Part
of_catalog n = one_page 2 n

-- the pages of a layer
abbrev pub of_layer : Reading → Part
of_layer h n = part_of_layer h.pages n

-- the pages of all layers
abbrev pub of_layers : List Reading → Part
of_layers [] n = 0
of_layers (h ∷ hs) n = of_layer h n + of_layers hs n

-- all pages in use: the catalog, and the trees and tables of the layers
abbrev pub in_use : List Reading → Part
in_use hs n = both of_catalog (of_layers hs) n

-- ---- the table

-- With these records the pages of a file of this version hold the table: each layer is read from its record,
-- and has an identifier table that the version allows, the live pages are those in use and no others, each in
-- one place, and the records may stand in a catalog.
pub record Holds (pages : PageMap) (next : ℕ) (version : Version) (records : List Record) (t : Table)
    : Type 0 where
  pub layers : List Reading
  pub rows : map row_of layers ≡ records
  pub table : map entry_of layers ≡ entries t
  pub stand : LayersStand pages layers
  pub allowed : AllowsTables version layers
  pub used : IsAllOf pages (in_use layers)
  pub good : IsTrue (is_good_catalog next records)

-- the layers that the catalog names, if page 2 spells any
abbrev pub catalog_in : PageMap → Option (List Record)
catalog_in pages = option_and_then records_at (pages 2)

-- the layer of this name has this tree
pub record IsTreeOf (pages : PageMap) (records : List Record) (name : List ℕ) (t : Tree) : Type 0 where
  pub row : Record
  pub among : Contains records row
  pub named : row.name ≡ name
  pub tree : IsTreeAt row.dims row.fanout pages (root_of row) t
