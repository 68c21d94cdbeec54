-- A layer that has other objects: its tree and its table became others, and its record says so.
use Rattle.std.proofs.Common.{◌≡◌, ◌∙◌, ℕ, ◌+◌, ◌<◌, ◌≤◌, List, length, get_or, map, true, false, sym, ap}
use Rattle.std.proofs.Common.{subst, arith}
use Rattle.std.specs.Prelude.{IsSome, slice_set, sum_by}
use Rattle.std.specs.FinMap.{entries, len, insert as map_insert}
use Rattle.std.proofs.lemmas.List.{get_or-map, length-map, map-set}
use Rattle.std.proofs.lemmas.List.Sums.{sum_by-set, sum_by_more_le}
use Rattle.catalog_page.specs.Layout.{Record, records_of}
use Rattle.id_table.specs.Table.{kind_of}
use Rattle.layer_pages.specs.Changes.{BecomesLayer}
use Rattle.layer_pages.specs.Layers.{IsLayerAt, Objects, part_of_layer}
use Rattle.page_cache.specs.Cache.{IsPageMap, next_of, pages, version_of}
use Rattle.page_cache.specs.Laws.{a_live_page_was_given_out}
use Rattle.page_file.specs.declared.header.Version.{Version}
use Rattle.plain_table.specs.Table.{Layer, Table, layer_at, most_objects, object_count}
use Rattle.tree_node.specs.Trees.{Tree}
use Rattle.tree_node.specs.declared.node.Root.{Root}
use Rattle.node_page.specs.Standing.{PageMap}
use Rattle.live_layers.specs.Catalog.{is_layer, with_tree}
use Rattle.live_layers.specs.Keeping.{ChangesTree, Finds, IsSound}
use Rattle.live_layers.specs.Layers.{AllowsTable, Holds, IsTreeOf, LayerStands, Reading, root_of}
use Rattle.live_layers.specs.Located.{Whereabouts, located_by, whereabouts_of}
use Rattle.live_layers.specs.declared.layers.Layers.{Layers}
use Rattle.live_layers.specs.declared.located.Located.{Located}
use Rattle.live_layers.proofs.CatalogGood.{few_good, good_parts}
use Rattle.live_layers.proofs.HoldLemmas.{here, here_allowed, here_good, here_layer, here_named, here_row, here_stands}
use Rattle.live_layers.proofs.HoldLemmas.{holds_replaced, in_records, its_tree_after, other_trees_stay}
use Rattle.live_layers.proofs.TableLemmas.{entries_after, layer_found}

-- ---- counts

-- how many objects a table has with another layer in the place of one
pub count_replaced : (t : Table) (name : List ℕ) (place : ℕ) → Finds t name place → (layer : Layer)
    → object_count (map_insert t name layer) + len (layer_at t name).objects ≡ object_count t + len
    layer.objects
count_replaced t name place finds layer =
    let value : List ℕ × Layer → Layer = λ x. x.1 in
    let size : Layer → ℕ = λ l. len l.objects in
    let d : List ℕ × Layer = (name, layer) in
    let is : map value (entries (map_insert t name layer)) ≡ slice_set (map value (entries t)) place layer =
    ap (map value) (entries_after t name place finds layer)
    ∙ map-set value (entries t) place (name, layer) in
    let there : get_or (map value (entries t)) place (value d) ≡ layer_at t name =
    get_or-map value (entries t) place d (value d) finds.stands.within
    ∙ sym (layer_found t name place finds d) in
    let sum =
    sum_by-set size (map value (entries t)) place layer (value d)
    (omega (arith, finds.stands.within, length-map (entries t) value)) in
    omega (arith, sum, ap (sum_by size) is, ap size there)

module _ {D A : Type 0} {m : _} (kept : Layers D A m) (t : Table) (name : List ℕ) (place : ℕ)
    (sound : IsSound kept t) (finds : Finds t name place) where
  -- what is read of the layer
  abbrev pub reading : Reading
  reading =
      here (pages kept.cache) (next_of kept.cache) (records_of kept.records) t sound.holds name place finds

  stands_there : LayerStands (pages kept.cache) reading
  stands_there =
      here_stands (pages kept.cache) (next_of kept.cache) (records_of kept.records) t sound.holds name place
      finds

  allowed_there : AllowsTable (version_of kept.cache) reading
  allowed_there =
      here_allowed (pages kept.cache) (next_of kept.cache) (records_of kept.records) t sound.holds name place
      finds

  pub row_there : (d : Record) → get_or (records_of kept.records) place d ≡ reading.row
  row_there d =
      here_row (pages kept.cache) (next_of kept.cache) (records_of kept.records) t sound.holds name place
      finds d

  layer_there : layer_at t name ≡ reading.layer
  layer_there =
      here_layer (pages kept.cache) (next_of kept.cache) (records_of kept.records) t sound.holds name place
      finds

  named_there : reading.row.name ≡ name
  named_there =
      here_named (pages kept.cache) (next_of kept.cache) (records_of kept.records) t sound.holds name place
      finds

  dims_there : (layer_at t name).dims ≡ reading.row.dims
  dims_there = ap (λ (l : Layer). l.dims) layer_there ∙ stands_there.dims

  fanout_there : (layer_at t name).fanout ≡ reading.row.fanout
  fanout_there = ap (λ (l : Layer). l.fanout) layer_there ∙ stands_there.fanout

  place_there : place < length (records_of kept.records)
  place_there =
      in_records (pages kept.cache) (next_of kept.cache) (records_of kept.records) t sound.holds name place
      finds

  -- its record counts its objects, which are few
  pub count_there : reading.row.count ≡ length (entries (layer_at t name).objects)
  count_there = sym stands_there.count ∙ ap (λ (l : Layer). length (entries l.objects)) (sym layer_there)

  pub few_there : reading.row.count ≤ most_objects
  few_there =
      let all =
      sum_by_more_le (λ (r : Record). r.count) (records_of kept.records) place reading.row place_there in
      let few = few_good (next_of kept.cache) (records_of kept.records) sound.holds.good in
      omega (arith, all, few, ap (λ (r : Record). r.count) (row_there reading.row))

  -- its tree
  pub tree_before : IsTreeOf (pages kept.cache) (records_of kept.records) name reading.pages.tree
  tree_before =
      record {
        row = reading.row;
        among = (place, place_there, row_there reading.row);
        named = named_there;
        tree = stands_there.at.tree;
      }

  module _ (located : Located) (by_record : whereabouts_of located ≡ located_by reading.row) (dims : ℕ)
      (is_dims : (layer_at t name).dims ≡ dims) where
    -- it stands where it was located
    pub stands_here : IsLayerAt dims located.fanout.most (pages kept.cache) located.root located.ids_root
        reading.pages (layer_at t name).objects
    stands_here =
        let its : IsLayerAt reading.row.dims reading.row.fanout (pages kept.cache) (root_of reading.row)
        reading.row.ids_root reading.pages (layer_at t name).objects =
        subst (λ (l : Layer). IsLayerAt reading.row.dims reading.row.fanout (pages kept.cache)
        (root_of reading.row) reading.row.ids_root reading.pages l.objects) (sym layer_there)
        stands_there.at in
        let at : IsLayerAt reading.row.dims located.fanout.most (pages kept.cache) located.root
        located.ids_root
        reading.pages (layer_at t name).objects =
        subst (λ (x : Whereabouts). IsLayerAt reading.row.dims x.fanout (pages kept.cache) x.root x.ids_root
        reading.pages (layer_at t name).objects) (sym by_record) its in
        subst (λ (k : ℕ). IsLayerAt k located.fanout.most (pages kept.cache) located.root located.ids_root
        reading.pages (layer_at t name).objects) (sym dims_there ∙ is_dims) at

    pub fanout_here : (layer_at t name).fanout ≡ located.fanout.most
    fanout_here = fanout_there ∙ ap (λ (x : Whereabouts). x.fanout) (sym by_record)

    -- ---- it has other objects

    module _ (new : Layers D A m) (root : Root) (objects : Objects) (IsSo : Tree → Type 0)
        (became : BecomesLayer dims located.fanout.most (pages kept.cache) (pages new.cache)
        (part_of_layer reading.pages) (kind_of reading.pages.ids) root located.ids_root objects IsSo)
        (count : ℕ) (counts : length (entries objects) ≡ count) (low : root.level ≤ 40)
        (le : next_of kept.cache ≤ next_of new.cache) (version : version_of new.cache ≡ version_of kept.cache)
        (few : object_count
        (map_insert t name (record (layer_at t name) { objects = objects })) ≤ most_objects)
        (records : (d : Record)
        → records_of new.records ≡ slice_set (records_of kept.records) place
        (with_tree (get_or (records_of kept.records) place d) root count)) where
      abbrev layer' : Layer
      layer' = record (layer_at t name) { objects = objects }

      abbrev reading' : Reading
      reading' = record { row = with_tree reading.row root count; pages = became.layer; layer = layer' }

      at' : IsLayerAt reading.row.dims reading.row.fanout (pages new.cache) root reading.row.ids_root
          became.layer objects
      at' = subst
          (λ (x : Whereabouts). IsLayerAt reading.row.dims x.fanout (pages new.cache) root x.ids_root
          became.layer objects) by_record
          (subst (λ (k : ℕ). IsLayerAt k located.fanout.most (pages new.cache) root located.ids_root
          became.layer
          objects) (sym is_dims ∙ dims_there) became.stands)

      stands' : LayerStands (pages new.cache) reading'
      stands' = record { at = at'; dims = dims_there; fanout = fanout_there; count = counts }

      allowed' : AllowsTable (version_of kept.cache) reading'
      allowed' = λ two. became.kind_is ∙ allowed_there two

      given : (n : ℕ) → IsSome (pages new.cache n) → (2 ≤ n) × (n < next_of new.cache)
      given n live = let l = a_live_page_was_given_out new.cache n live in (l.0, l.1)

      is_layer' : is_layer reading.row ≡ true
      is_layer' =
          (good_parts (next_of kept.cache) reading.row
          (here_good (pages kept.cache) (next_of kept.cache) (records_of kept.records) t sound.holds name
          place finds)).layer

      records' : records_of new.records ≡ slice_set (records_of kept.records) place reading'.row
      records' = records reading.row
          ∙ ap (λ (r : Record). slice_set (records_of kept.records) place (with_tree r root count))
          (row_there reading.row)

      held' : Holds (pages new.cache) (next_of new.cache) (version_of kept.cache)
          (slice_set (records_of kept.records) place reading'.row) (map_insert t name layer')
      held' = holds_replaced (pages kept.cache) (pages new.cache) (next_of kept.cache) (next_of new.cache)
          (records_of kept.records) t sound.holds name place finds reading' stands' allowed' named_there
          became.moves le given is_layer' low few

      -- so the layers are sound with the table that has them
      pub sound_replaced : IsPageMap new.cache → new.object_count ≡ object_count (map_insert t name layer')
          → new.written ≡ false → IsSound new (map_insert t name layer')
      sound_replaced is_map total unwritten = record {
        map = is_map;
        holds = subst
            (λ (rs : List Record). Holds (pages new.cache) (next_of new.cache) (version_of new.cache) rs
            (map_insert t name layer')) (sym records')
            (subst (λ (v : Version). Holds (pages new.cache) (next_of new.cache) v
            (slice_set (records_of kept.records) place reading'.row) (map_insert t name layer'))
            (sym version) held');
        counted = total;
        within = omega (arith, total, few);
        catalog = λ w. let no : true ≡ false = sym w ∙ unwritten in absurd (cc);
      }

      -- and the trees of all other layers stay
      pub tree_replaced : (Rule : Tree → Tree → Type 0)
          → (IsSo became.layer.tree → Rule reading.pages.tree became.layer.tree)
          → ChangesTree kept new name Rule
      unfolding stands'
      tree_replaced Rule so = record {
        was = reading.pages.tree;
        now = became.layer.tree;
        before = tree_before;
        after = subst (λ (rs : List Record). IsTreeOf (pages new.cache) rs name became.layer.tree)
            (sym records')
            (its_tree_after (pages kept.cache) (pages new.cache) (next_of kept.cache) (next_of new.cache)
            (records_of kept.records) t sound.holds name place finds reading' stands' allowed' named_there
            became.moves le given is_layer' low few);
        rule = so became.tree_is;
        others =
            λ other s apart there. subst (λ (rs : List Record). IsTreeOf (pages new.cache) rs other s)
            (sym records')
            (other_trees_stay (pages kept.cache) (pages new.cache) (next_of kept.cache) (next_of new.cache)
            (records_of kept.records) t sound.holds name place finds reading' stands' allowed' named_there
            became.moves le given is_layer' low few other s apart there);
      }

-- ---- equal pages and records

-- a tree of equal pages and records
pub same_tree_of : (p q : PageMap) (rs ss : List Record) → ((n : ℕ) → p n ≡ q n) → rs ≡ ss
    → (name : List ℕ) (t : Tree) → IsTreeOf p rs name t → IsTreeOf q ss name t
same_tree_of p q rs ss same records name t there =
    let whole : p ≡ q = λ i n. same n i in
    subst (λ (xs : List Record). IsTreeOf q xs name t) records
    (subst (λ (x : PageMap). IsTreeOf x rs name t) whole there)

-- a change of trees, said of the layers before, whose pages and records are the same
pub changes_before : {D A : Type 0} {m : _} (old kept new : Layers D A m) (name : List ℕ)
    (Rule : Tree → Tree → Type 0) → ((n : ℕ) → pages kept.cache n ≡ pages old.cache n)
    → records_of kept.records ≡ records_of old.records
    → ChangesTree kept new name Rule → ChangesTree old new name Rule
changes_before old kept new name Rule same records changes = record {
  was = changes.was;
  now = changes.now;
  before =
      same_tree_of (pages kept.cache) (pages old.cache) (records_of kept.records) (records_of old.records)
      same records name changes.was changes.before;
  after = changes.after;
  rule = changes.rule;
  others = λ other t apart there.
      changes.others other t apart
      (same_tree_of (pages old.cache) (pages kept.cache) (records_of old.records)
      (records_of kept.records) (λ n. sym (same n)) (sym records) other t there);
}
