-- The layer at a place, and what its record says.
use Rattle.std.proofs.Common.{◌≡◌, ◌∙◌, ℕ, ◌<◌, ◌≤◌, ◌^◌, List, length, get_or, map, true, ◌&&◌, nat_le, sym}
use Rattle.std.proofs.Common.{ap, subst, arith}
use Rattle.std.specs.Cmp.{first_so, second_so}
use Rattle.std.proofs.lemmas.Bool.Decides.{nat_tests}
use Rattle.std.proofs.lemmas.List.{get_or-map, length-map}
use Rattle.std.specs.FinMap.{len, len-entries}
use Rattle.box_math.specs.Bounds.{IsDims}
use Rattle.catalog_page.specs.Layout.{Record, record_of, records_of}
use Rattle.catalog_page.specs.declared.layer_record.LayerRecord.{LayerRecord}
use Rattle.layer_pages.specs.Layers.{CanBeRoot, IsLayerAt}
use Rattle.page_cache.specs.Cache.{next_of, pages}
use Rattle.plain_table.specs.Table.{Layer, Table, is_dims, is_fanout, is_layer_name, layer_at}
use Rattle.tree_node.specs.declared.fanout.Fanout.{Fanout}
use Rattle.live_layers.specs.Catalog.{AreLayers, is_layer_record, is_page}
use Rattle.live_layers.specs.Keeping.{Finds, IsSound}
use Rattle.live_layers.specs.Layers.{Reading, root_of}
use Rattle.live_layers.specs.Located.{IsLocated}
use Rattle.live_layers.specs.declared.layers.Layers.{Layers}
use Rattle.live_layers.specs.declared.located.Located.{Located}
use Rattle.live_layers.proofs.CatalogGood.{good_parts, not_more}
use Rattle.live_layers.proofs.HoldLemmas.{here, here_layer, here_named, here_row, here_stands, in_records}

page_says : (next n : ℕ) → is_page next n ≡ true → (3 ≤ n) × (n < next)
page_says next n e = (low, below)
  where
    low : 3 ≤ n
    low = grind (arith, nat_tests)

    below : n < next
    below = grind (arith, nat_tests)

two_or_three : (dims : ℕ) → is_dims dims ≡ true → IsDims dims
two_or_three dims e = (low, high)
  where
    low : 2 ≤ dims
    low = grind (arith, nat_tests)

    high : dims ≤ 3
    high = grind (arith, nat_tests)

module _ (items : List LayerRecord) (place : ℕ) (r : LayerRecord) (is : r ≡ get_or items place r)
    (lt : place < length items) (each : AreLayers (map record_of items)) where
  record_good : is_layer_record (2 ^ 31) (record_of r) ≡ true
  record_good =
      let there = each place (record_of r) (omega (arith, lt, length-map items record_of)) in
      let same : get_or (map record_of items) place (record_of r) ≡ record_of r =
      get_or-map record_of items place r (record_of r) lt ∙ ap record_of (sym is) in
      subst (λ (x : Record). is_layer_record (2 ^ 31) x ≡ true) same there

  pub dims_fit : IsDims r.dims
  dims_fit =
      let parts = good_parts (2 ^ 31) (record_of r) record_good in
      let named = first_so (is_layer_name r.name.items && is_dims r.dims) (is_fanout r.fanout) parts.layer in
      two_or_three r.dims (second_so (is_layer_name r.name.items) (is_dims r.dims) named)

  pub fanout_fits : (4 ≤ r.fanout) × (r.fanout ≤ 100)
  fanout_fits =
      let parts = good_parts (2 ^ 31) (record_of r) record_good in
      let sized : is_fanout r.fanout ≡ true =
      second_so (is_layer_name r.name.items && is_dims r.dims) (is_fanout r.fanout) parts.layer in (
        not_more 4 r.fanout (first_so (nat_le 4 r.fanout) (nat_le r.fanout 100) sized),
        not_more r.fanout 100 (second_so (nat_le 4 r.fanout) (nat_le r.fanout 100) sized),
      )

  pub can_be_root : CanBeRoot (root_of (record_of r))
  can_be_root =
      let parts = good_parts (2 ^ 31) (record_of r) record_good in
      record { level = parts.low; page = page_says (2 ^ 31) r.root parts.root }

module _ {D A : Type 0} {m : _} (kept : Layers D A m) (t : Table) (name : List ℕ) (place : ℕ)
    (sound : IsSound kept t) (finds : Finds t name place) (r : LayerRecord)
    (is : r ≡ get_or kept.records.items place r) where
  -- what is read of it
  abbrev pub reading : Reading
  reading =
      here (pages kept.cache) (next_of kept.cache) (records_of kept.records) t sound.holds name place finds

  pub row_is : record_of r ≡ reading.row
  row_is =
      let there =
      in_records (pages kept.cache) (next_of kept.cache) (records_of kept.records) t sound.holds name
      place finds in
      ap record_of is
      ∙ sym (get_or-map record_of kept.records.items place r (record_of r)
      (omega (arith, there, length-map kept.records.items record_of)))
      ∙ here_row (pages kept.cache) (next_of kept.cache) (records_of kept.records) t sound.holds name place
      finds (record_of r)

  pub layer_is : layer_at t name ≡ reading.layer
  layer_is =
      here_layer (pages kept.cache) (next_of kept.cache) (records_of kept.records) t sound.holds name place
      finds

  -- it has as many objects as its record says
  pub count_here : len (layer_at t name).objects ≡ r.count
  count_here =
      let stands =
      here_stands (pages kept.cache) (next_of kept.cache) (records_of kept.records) t sound.holds name
      place finds in
      ap (λ (l : Layer). len l.objects) layer_is ∙ len-entries reading.layer.objects ∙ stands.count
      ∙ ap (λ (x : Record). x.count) (sym row_is)

  pub located_here : (limit : Fanout) → limit.most ≡ r.fanout → IsLocated kept t name
      (record {
        dims = r.dims;
        fanout = limit;
        root = record { page = r.root; level = r.level };
        ids_root = r.ids_root;
      })
  located_here limit same =
      let stands =
      here_stands (pages kept.cache) (next_of kept.cache) (records_of kept.records) t sound.holds name
      place finds in
      let its =
      subst (λ (x : Record). IsLayerAt x.dims x.fanout (pages kept.cache) (root_of x) x.ids_root
      reading.pages reading.layer.objects) (sym row_is) stands.at in
      record {
        layer = reading.pages;
        dims = ap (λ (l : Layer). l.dims) layer_is ∙ stands.dims ∙ ap (λ (x : Record). x.dims) (sym row_is);
        fanout = ap (λ (l : Layer). l.fanout) layer_is ∙ stands.fanout
            ∙ ap (λ (x : Record). x.fanout) (sym row_is) ∙ sym same;
        stands =
            subst (λ (k : ℕ). IsLayerAt r.dims k (pages kept.cache) (root_of (record_of r)) r.ids_root
            reading.pages (layer_at t name).objects) (sym same)
            (subst (λ (l : Layer). IsLayerAt r.dims r.fanout (pages kept.cache) (root_of (record_of r))
            r.ids_root reading.pages l.objects) (sym layer_is) its);
        its_tree = record {
          row = reading.row;
          among = (
            place,
            in_records (pages kept.cache) (next_of kept.cache) (records_of kept.records) t sound.holds name
                place finds,
            here_row (pages kept.cache) (next_of kept.cache) (records_of kept.records) t sound.holds name
                place finds reading.row,
          );
          named = here_named (pages kept.cache) (next_of kept.cache) (records_of kept.records) t sound.holds
              name place finds;
          tree = stands.at.tree;
        };
      }

-- the layer stands with the axes that are known
pub stands_with : {D A : Type 0} {m : _} (kept : Layers D A m) (t : Table) (name : List ℕ) (there : Located)
    (located : IsLocated kept t name there) (axes : ℕ) → there.dims ≡ axes
    → IsLayerAt axes there.fanout.most (pages kept.cache) there.root there.ids_root located.layer
    (layer_at t name).objects
stands_with kept t name there located axes e =
    subst (λ (d : ℕ). IsLayerAt d there.fanout.most (pages kept.cache) there.root there.ids_root located.layer
    (layer_at t name).objects) e located.stands
