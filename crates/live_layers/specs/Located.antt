-- What is known of the layer of a name where it stands.
use Rattle.std.specs.Prelude.{◌≡◌, ℕ, List, slice_index_or}
use Rattle.catalog_page.specs.Layout.{Record}
use Rattle.id_table.specs.Table.{IsSpotAt}
use Rattle.id_table.specs.declared.asking.Spot.{Spot}
use Rattle.layer_pages.specs.Layers.{IsLayerAt, LayerPages}
use Rattle.page_cache.specs.Cache.{pages}
use Rattle.plain_table.specs.Table.{Table, layer_at}
use Rattle.tree_node.specs.declared.node.Root.{Root}
use Rattle.live_layers.specs.Keeping.{HasTree, cache_of, records_in}
use Rattle.live_layers.specs.Layers.{root_of}
use Rattle.live_layers.specs.declared.layers.Layers.{Layers}
use Rattle.live_layers.specs.declared.located.Located.{Located}

-- it has the dimension and fanout of the layer of that name, which stands with root and identifier table
pub record IsLocated {D A : Type 0} {m : _} (kept : Layers D A m) (t : Table) (name : List ℕ)
    (located : Located) : Type 0 where
  pub layer : LayerPages
  pub dims : (layer_at t name).dims ≡ located.dims
  pub fanout : (layer_at t name).fanout ≡ located.fanout.most
  pub stands : IsLayerAt located.dims located.fanout.most (pages (cache_of kept)) located.root
      located.ids_root
      layer (layer_at t name).objects
  pub its_tree : HasTree kept name layer.tree

-- what a record says of where its layer stands
pub record Whereabouts : Type 0 where
  pub dims : ℕ
  pub fanout : ℕ
  pub root : Root
  pub ids_root : ℕ

abbrev pub located_by : Record → Whereabouts
located_by r = record { dims = r.dims; fanout = r.fanout; root = root_of r; ids_root = r.ids_root }

-- the same of a layer that was located
abbrev pub whereabouts_of : Located → Whereabouts
whereabouts_of located = record {
  dims = located.dims;
  fanout = located.fanout.most;
  root = located.root;
  ids_root = located.ids_root;
}

-- the layer at a place was located so, by its record
abbrev pub IsRecorded : {D A : Type 0} {m : _} → Layers D A m → ℕ → Located → Type 0
IsRecorded kept place located =
    (row : Record) → whereabouts_of located ≡ located_by (slice_index_or (records_in kept) place row)

-- this is the spot of an identifier in the table of a layer that was located so
abbrev pub IsSpotOf : {D A : Type 0} {m : _} → ℕ → Layers D A m → Located → ℕ → Spot → Type 0
IsSpotOf dims kept located id spot = IsSpotAt dims (pages (cache_of kept)) located.ids_root id spot

-- of the layer at a place
abbrev pub IsSpotIn : {D A : Type 0} {m : _} → ℕ → Layers D A m → ℕ → ℕ → Spot → Type 0
IsSpotIn dims kept place id spot =
    (located : Located) → IsRecorded kept place located → IsSpotOf dims kept located id spot
