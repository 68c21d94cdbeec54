-- An object added to a layer.
use Rattle.std.proofs.Common.{◌≡◌, ◌∙◌, ℕ, ◌+◌, ◌-◌, ◌<◌, ◌≤◌, ◌^◌, List, length, get_or, false, sym, ap}
use Rattle.std.proofs.Common.{subst, arith}
use Rattle.std.specs.Prelude.{min, slice_set}
use Rattle.std.proofs.Math.Nat.{min-eq_left}
use Rattle.std.specs.FinMap.{contains_key, entries, insert as map_insert, len-entries}
use Rattle.box_math.specs.Objects.{Object}
use Rattle.catalog_page.specs.Layout.{Record, records_of}
use Rattle.id_table.specs.Table.{kind_of, part_of}
use Rattle.layer_pages.specs.Changes.{BecomesLayer, HasInserted}
use Rattle.layer_pages.specs.Layers.{CanBeRoot, IsLayerAt, part_of_layer}
use Rattle.page_cache.specs.Cache.{IsPageMap, next_of, pages, version_of}
use Rattle.page_cache.specs.declared.cache.PageCache.{PageCache}
use Rattle.plain_table.specs.Table.{Layer, Table, layer_at, most_objects, object_count, with_object}
use Rattle.plain_table.proofs.StepLemmas.{len-with_object}
use Rattle.reinsert.specs.Insertion.{IsInsertion}
use Rattle.tree_node.specs.Trees.{object}
use Rattle.tree_node.specs.declared.node.Root.{Root}
use Rattle.live_layers.specs.Catalog.{with_tree}
use Rattle.live_layers.specs.Keeping.{ChangesTree, Finds, IsSound}
use Rattle.live_layers.specs.Located.{located_by, whereabouts_of}
use Rattle.live_layers.specs.Rules.{HasGained}
use Rattle.live_layers.specs.declared.layers.Layers.{Layers}
use Rattle.live_layers.specs.declared.located.Located.{Located}
use Rattle.live_layers.proofs.InsertLemmas.{one_more_object}
use Rattle.live_layers.proofs.ReplaceLemmas.{count_there, fanout_here, few_there, reading, row_there}
use Rattle.live_layers.proofs.ReplaceLemmas.{sound_replaced, stands_here, tree_replaced}

-- a layer with an object more has one more entry than its record counts
one_more_entry : (layer : Layer) (id : ℕ) (o : Object) (was count : ℕ)
    → contains_key layer.objects id ≡ false → was ≡ length (entries layer.objects) → was ≤ most_objects
    → count ≡ min (was + 1) (2 ^ 64 - 1)
    → length (entries (with_object layer id o).objects) ≡ count
one_more_entry layer id o was count absent is few more =
    let fits : min (was + 1) (2 ^ 64 - 1) ≡ was + 1 = min-eq_left (omega (arith, few)) in
    omega (
      arith,
      sym (len-entries (with_object layer id o).objects),
      len-with_object layer id o absent,
      len-entries layer.objects,
      is,
      more,
      fits,
    )

module _ {D A : Type 0} {m : _} (kept : Layers D A m) (t : Table) (name : List ℕ) (place : ℕ)
    (sound : IsSound kept t) (finds : Finds t name place)
    (located : Located)
    (by_record : (d : Record) → whereabouts_of located ≡ located_by
    (get_or (records_of kept.records) place d))
    (dims : ℕ) (is_dims : (layer_at t name).dims ≡ dims) where
  pub by_row : whereabouts_of located ≡ located_by (reading kept t name place sound finds).row
  by_row =
      let row : Record = (reading kept t name place sound finds).row in
      by_record row ∙ ap located_by (row_there kept t name place sound finds row)

  pub stands_at : IsLayerAt dims located.fanout.most (pages kept.cache) located.root located.ids_root
      (reading kept t name place sound finds).pages (layer_at t name).objects
  stands_at = stands_here kept t name place sound finds located by_row dims is_dims

  module _ (id : ℕ) (o : Object) (absent : contains_key (layer_at t name).objects id ≡ false)
      (cache : PageCache D A m) (root : Root)
      (became : BecomesLayer dims located.fanout.most (pages kept.cache) (pages cache)
      (part_of_layer (reading kept t name place sound finds).pages)
      (kind_of (reading kept t name place sound finds).pages.ids) root located.ids_root
      (map_insert (layer_at t name).objects id o)
      (HasInserted dims located.fanout.most (reading kept t name place sound finds).pages id o))
      (new : Layers D A m) (same : new.cache ≡ cache) (was count : ℕ)
      (was_is : (d : Record) → was ≡ (get_or (records_of kept.records) place d).count)
      (count_is : count ≡ min (was + 1) (2 ^ 64 - 1))
      (can : CanBeRoot root) (le : next_of kept.cache ≤ next_of cache)
      (version : version_of cache ≡ version_of kept.cache)
      (room : kept.object_count < most_objects)
      (records : (d : Record)
      → records_of new.records ≡ slice_set (records_of kept.records) place
      (with_tree (get_or (records_of kept.records) place d) root count)) where
    became_new : BecomesLayer dims located.fanout.most (pages kept.cache) (pages new.cache)
        (part_of_layer (reading kept t name place sound finds).pages)
        (kind_of (reading kept t name place sound finds).pages.ids) root located.ids_root
        (map_insert (layer_at t name).objects id o)
        (HasInserted dims located.fanout.most (reading kept t name place sound finds).pages id o)
    became_new =
        subst (λ (x : PageCache D A m). BecomesLayer dims located.fanout.most (pages kept.cache) (pages x)
        (part_of_layer (reading kept t name place sound finds).pages)
        (kind_of (reading kept t name place sound finds).pages.ids) root located.ids_root
        (map_insert (layer_at t name).objects id o)
        (HasInserted dims located.fanout.most (reading kept t name place sound finds).pages id o)) (sym same)
        became

    was_there : was ≡ (reading kept t name place sound finds).row.count
    was_there =
        let row : Record = (reading kept t name place sound finds).row in
        was_is row ∙ ap (λ (r : Record). r.count) (row_there kept t name place sound finds row)

    counts : length (entries (map_insert (layer_at t name).objects id o)) ≡ count
    counts =
        one_more_entry (layer_at t name) id o was count absent
        (was_there ∙ count_there kept t name place sound finds)
        (omega (arith, was_there, few_there kept t name place sound finds)) count_is

    more : object_count (map_insert t name (with_object (layer_at t name) id o)) ≡ object_count t + 1
    more = one_more_object t name place finds id o absent

    few : object_count (map_insert t name (with_object (layer_at t name) id o)) ≤ most_objects
    few = omega (arith, more, room, sound.counted)

    later : next_of kept.cache ≤ next_of new.cache
    later = subst (λ (x : PageCache D A m). next_of kept.cache ≤ next_of x) (sym same) le

    same_version : version_of new.cache ≡ version_of kept.cache
    same_version = subst (λ (x : PageCache D A m). version_of x ≡ version_of kept.cache) (sym same) version

    -- the layers are sound with the object
    pub sound_added : IsPageMap cache → new.object_count ≡ kept.object_count + 1 → new.written ≡ false
        → IsSound new (map_insert t name (with_object (layer_at t name) id o))
    sound_added is_map total unwritten =
        sound_replaced kept t name place sound finds located by_row dims is_dims new root
        (map_insert (layer_at t name).objects id o)
        (HasInserted dims located.fanout.most (reading kept t name place sound finds).pages id o) became_new
        count counts
        can.level later same_version few records (subst (λ (x : PageCache D A m). IsPageMap x) (sym same) is_map)
        (omega (arith, total, more, sound.counted)) unwritten

    -- and the tree of the layer became one by a lawful insertion
    pub tree_added : ChangesTree kept new name (HasGained (layer_at t name) id o)
    tree_added =
        tree_replaced kept t name place sound finds located by_row dims is_dims new root
        (map_insert (layer_at t name).objects id o)
        (HasInserted dims located.fanout.most (reading kept t name place sound finds).pages id o) became_new
        count counts
        can.level later same_version few records (HasGained (layer_at t name) id o)
        (λ inserted. (
          part_of (reading kept t name place sound finds).pages.ids,
          subst (λ (k : ℕ). IsInsertion k (layer_at t name).fanout
              (part_of (reading kept t name place sound finds).pages.ids) (object o id) 0
              (reading kept t name place sound finds).pages.tree became_new.layer.tree) (sym is_dims)
              (subst (λ (k : ℕ). IsInsertion dims k
              (part_of (reading kept t name place sound finds).pages.ids) (object o id) 0
              (reading kept t name place sound finds).pages.tree became_new.layer.tree)
              (sym (fanout_here kept t name place sound finds located by_row dims is_dims)) inserted),
        ))
