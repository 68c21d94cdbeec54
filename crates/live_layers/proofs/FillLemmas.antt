-- Objects put into a layer that has none.
use Rattle.std.proofs.Common.{◌≡◌, ◌∙◌, ℕ, ◌+◌, ◌≤◌, List, [], ◌∷◌, length, get_or, false, sym, ap, subst}
use Rattle.std.proofs.Common.{arith}
use Rattle.std.specs.Prelude.{IsPermutation, None, is_some, slice_set}
use Rattle.std.specs.Cmp.{nat_cmp_total}
use Rattle.std.specs.Ordering.{nat_cmp}
use Rattle.std.specs.FinMap.{contains_key, empty, empty_of_len, entries, find, from_entries, get-from_entries}
use Rattle.std.specs.FinMap.{insert as map_insert, len, len-empty, len-entries}
use Rattle.std.proofs.lemmas.List.Sorted.{IsPermutation-cons, IsPermutation-refl, IsPermutation-trans}
use Rattle.std.proofs.lemmas.List.Sorted.{length_permutation}
use Rattle.box_math.specs.Objects.{Object}
use Rattle.catalog_page.specs.Layout.{Record, records_of}
use Rattle.id_table.specs.Table.{kind_of}
use Rattle.layer_pages.specs.Changes.{BecomesLayer, HasPacked}
use Rattle.layer_pages.specs.Layers.{CanBeRoot, IsLayerAt, Objects, part_of_layer}
use Rattle.layer_pages.proofs.ObjectLemmas.{one_entry_more}
use Rattle.page_cache.specs.Cache.{IsPageMap, next_of, pages, version_of}
use Rattle.page_cache.specs.declared.cache.PageCache.{PageCache}
use Rattle.plain_table.specs.Table.{Table, layer_at, most_objects, object_count}
use Rattle.tree_node.specs.declared.node.Root.{Root}
use Rattle.live_layers.specs.Catalog.{with_tree}
use Rattle.live_layers.specs.Keeping.{ChangesTree, Finds, IsSound}
use Rattle.live_layers.specs.Located.{located_by, whereabouts_of}
use Rattle.live_layers.specs.Rules.{HasFilled}
use Rattle.live_layers.specs.declared.layers.Layers.{Layers}
use Rattle.live_layers.specs.declared.located.Located.{Located}
use Rattle.live_layers.proofs.AddLemmas.{by_row, stands_at}
use Rattle.live_layers.proofs.ReplaceLemmas.{count_replaced, fanout_here, reading, sound_replaced}
use Rattle.live_layers.proofs.ReplaceLemmas.{tree_replaced}

module _ {D A : Type 0} {m : _} (kept : Layers D A m) (t : Table) (name : List ℕ) (place : ℕ)
    (sound : IsSound kept t) (finds : Finds t name place)
    (located : Located)
    (by_record : (d : Record) → whereabouts_of located ≡ located_by
    (get_or (records_of kept.records) place d))
    (dims : ℕ) (is_dims : (layer_at t name).dims ≡ dims) (none : len (layer_at t name).objects ≡ 0) where
  pub stands_empty : IsLayerAt dims located.fanout.most (pages kept.cache) located.root located.ids_root
      (reading kept t name place sound finds).pages empty
  stands_empty =
      subst (λ (o : Objects). IsLayerAt dims located.fanout.most (pages kept.cache) located.root
      located.ids_root
      (reading kept t name place sound finds).pages o) (empty_of_len (layer_at t name).objects none)
      (stands_at kept t name place sound finds located by_record dims is_dims)

  module _ (objects : List (ℕ × Object)) (count : ℕ) (as_many : length objects ≡ count) (all : Objects)
      (same_objects : IsPermutation objects (entries all))
      (cache : PageCache D A m) (root : Root)
      (became : BecomesLayer dims located.fanout.most (pages kept.cache) (pages cache)
      (part_of_layer (reading kept t name place sound finds).pages)
      (kind_of (reading kept t name place sound finds).pages.ids) root located.ids_root all
      (HasPacked dims located.fanout.most objects))
      (new : Layers D A m) (same : new.cache ≡ cache) (can : CanBeRoot root)
      (le : next_of kept.cache ≤ next_of cache) (version : version_of cache ≡ version_of kept.cache)
      (room : kept.object_count + count ≤ most_objects)
      (records : (d : Record)
      → records_of new.records ≡ slice_set (records_of kept.records) place
      (with_tree (get_or (records_of kept.records) place d) root count)) where
    became_new : BecomesLayer dims located.fanout.most (pages kept.cache) (pages new.cache)
        (part_of_layer (reading kept t name place sound finds).pages)
        (kind_of (reading kept t name place sound finds).pages.ids) root located.ids_root all
        (HasPacked dims located.fanout.most objects)
    became_new =
        subst (λ (x : PageCache D A m). BecomesLayer dims located.fanout.most (pages kept.cache) (pages x)
        (part_of_layer (reading kept t name place sound finds).pages)
        (kind_of (reading kept t name place sound finds).pages.ids) root located.ids_root all
        (HasPacked dims located.fanout.most objects)) (sym same) became

    counts : length (entries all) ≡ count
    counts = length_permutation objects (entries all) same_objects ∙ as_many

    more : object_count (map_insert t name (record (layer_at t name) { objects = all })) ≡ object_count
        t + count
    more = omega (
      arith,
      count_replaced t name place finds (record (layer_at t name) { objects = all }),
      none,
      len-entries all,
      counts,
    )

    few : object_count (map_insert t name (record (layer_at t name) { objects = all })) ≤ most_objects
    few = omega (arith, more, room, sound.counted)

    later : next_of kept.cache ≤ next_of new.cache
    later = subst (λ (x : PageCache D A m). next_of kept.cache ≤ next_of x) (sym same) le

    same_version : version_of new.cache ≡ version_of kept.cache
    same_version = subst (λ (x : PageCache D A m). version_of x ≡ version_of kept.cache) (sym same) version

    -- the layers are sound with them
    pub sound_filled : IsPageMap cache → new.object_count ≡ kept.object_count + count
        → new.written ≡ false → IsSound new (map_insert t name (record (layer_at t name) { objects = all }))
    sound_filled is_map total unwritten =
        sound_replaced kept t name place sound finds located
        (by_row kept t name place sound finds located by_record dims is_dims) dims is_dims new root all
        (HasPacked dims located.fanout.most objects) became_new count counts
        can.level later same_version few records (subst (λ (x : PageCache D A m). IsPageMap x) (sym same) is_map)
        (omega (arith, total, more, sound.counted)) unwritten

    -- and the tree of the layer is packed
    pub tree_filled : ChangesTree kept new name (HasFilled (layer_at t name) objects)
    tree_filled =
        let by = by_row kept t name place sound finds located by_record dims is_dims in
        tree_replaced kept t name place sound finds located by dims is_dims new root all
        (HasPacked dims located.fanout.most objects) became_new count counts can.level later
        same_version few records (HasFilled (layer_at t name) objects)
        (λ packed. subst (λ (k : ℕ). HasPacked k (layer_at t name).fanout objects became_new.layer.tree)
        (sym is_dims)
        (subst (λ (k : ℕ). HasPacked dims k objects became_new.layer.tree)
        (sym (fanout_here kept t name place sound finds located by dims is_dims)) packed))

-- ---- objects of different identifiers

-- each has an identifier that none behind it has
abbrev pub AreApart : List (ℕ × Object) → Type 0
AreApart [] = Unit {0}
AreApart (o ∷ rest) = (find nat_cmp o.0 rest ≡ None) × AreApart rest

no_entries : (es : List (ℕ × Object)) → length es ≡ 0 → IsPermutation [] es
no_entries [] none = IsPermutation-refl []
no_entries (e ∷ es) none = absurd (omega (arith, none))

-- they are the entries of the map that they make
pub entries_made : (objects : List (ℕ × Object)) → AreApart objects
    → IsPermutation objects (entries (from_entries {R = nat_cmp} objects))
entries_made [] apart =
    no_entries (entries (empty {X = Object} {R = nat_cmp}))
    (sym (len-entries (empty {X = Object} {R = nat_cmp})) ∙ len-empty nat_cmp Object)
entries_made (o ∷ rest) apart =
    let absent : contains_key (from_entries {R = nat_cmp} rest) o.0 ≡ false =
    ap is_some (get-from_entries nat_cmp_total rest o.0 ∙ apart.0) in
    IsPermutation-trans (o ∷ rest) (o ∷ entries (from_entries {R = nat_cmp} rest))
    (entries (map_insert (from_entries {R = nat_cmp} rest) o.0 o.1))
    (IsPermutation-cons o rest (entries (from_entries {R = nat_cmp} rest)) (entries_made rest apart.1))
    (one_entry_more (from_entries {R = nat_cmp} rest) o.0 o.1 absent)
