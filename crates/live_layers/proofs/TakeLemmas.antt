-- A layer that has other objects after a change of its pages, and an object taken out of one.
use Rattle.std.proofs.Common.{◌≡◌, ◌∙◌, ℕ, zero, suc, ◌+◌, ◌-◌, ◌≤◌, List, get_or, Some, Option, Bool, cond}
use Rattle.std.proofs.Common.{false, refl, sym, ap, subst, arith}
use Rattle.std.specs.Prelude.{is_some, slice_set, unwrap_or}
use Rattle.std.specs.Cmp.{nat_cmp_total}
use Rattle.std.specs.FinMap.{empty_of_len, get, get-empty, insert as map_insert, len, len-entries, len-remove}
use Rattle.std.specs.FinMap.{remove}
use Rattle.std.specs.Ordering.{nat_cmp}
use Rattle.box_math.specs.Objects.{Object}
use Rattle.catalog_page.specs.Layout.{Record, records_of}
use Rattle.condense.specs.Removal.{IsRemoval}
use Rattle.id_table.specs.Table.{kind_of, part_of}
use Rattle.layer_pages.specs.Changes.{BecomesLayer, HasInserted, HasRemoved}
use Rattle.layer_pages.specs.Layers.{CanBeRoot, LayerPages, Objects, part_of_layer}
use Rattle.page_cache.specs.Cache.{IsPageMap, next_of, pages, version_of}
use Rattle.page_cache.specs.declared.cache.PageCache.{PageCache}
use Rattle.plain_table.specs.Table.{Layer, Table, layer_at, most_objects, no_object, object_at, object_count}
use Rattle.plain_table.specs.Table.{without_object}
use Rattle.reinsert.specs.Insertion.{IsInsertion}
use Rattle.tree_node.specs.Trees.{Tree, object}
use Rattle.tree_node.specs.declared.node.Root.{Root}
use Rattle.live_layers.specs.Catalog.{with_tree}
use Rattle.live_layers.specs.Keeping.{ChangesTree, Finds, IsSound}
use Rattle.live_layers.specs.Located.{located_by, whereabouts_of}
use Rattle.live_layers.specs.Rules.{HasGained, HasLost}
use Rattle.live_layers.specs.declared.layers.Layers.{Layers}
use Rattle.live_layers.specs.declared.located.Located.{Located}
use Rattle.live_layers.proofs.AddLemmas.{by_row}
use Rattle.live_layers.proofs.LoadLemmas.{counted_there}
use Rattle.live_layers.proofs.ReplaceLemmas.{count_replaced, fanout_here, reading, sound_replaced}
use Rattle.live_layers.proofs.ReplaceLemmas.{tree_replaced}

-- ---- one object less

module _ (layer : Layer) (id : ℕ) (o : Object) (there : get layer.objects id ≡ Some o) where
  pub one_object_less : len (without_object layer id).objects + 1 ≡ len layer.objects
  one_object_less = case (len layer.objects) refl
    where
      case : (n : ℕ) → len layer.objects ≡ n → len (without_object layer id).objects + 1 ≡ len layer.objects
      case zero none =
          let no = sym there ∙ ap (λ (m : Objects). get m id) (empty_of_len layer.objects none)
          ∙ get-empty nat_cmp id in absurd (cc)
      case (suc n) some =
          let less = len-remove nat_cmp_total layer.objects id
          ∙ ap (λ (c : Bool). cond c (len layer.objects - 1) (len layer.objects)) (ap is_some there) in
          omega (arith, less, some)

  pub its_object : o ≡ object_at layer id
  its_object = ap (λ (found : Option Object). unwrap_or found no_object) (sym there)

-- ---- the rules of trees

module _ (layer : Layer) (dims most : ℕ) (is_dims : layer.dims ≡ dims) (is_most : layer.fanout ≡ most)
    (l : LayerPages) (id : ℕ) (o : Object) (s : Tree) where
  pub lost : o ≡ object_at layer id → HasRemoved dims most l id o s → HasLost layer id l.tree s
  lost its removed = (
    part_of l.ids,
    subst (λ (k : ℕ). IsRemoval k layer.fanout (part_of l.ids) id (object_at layer id) l.tree s) (sym is_dims)
        (subst (λ (k : ℕ). IsRemoval dims k (part_of l.ids) id (object_at layer id) l.tree s) (sym is_most)
        (subst (λ (x : Object). IsRemoval dims most (part_of l.ids) id x l.tree s) its removed)),
  )

  pub gained : HasInserted dims most l id o s → HasGained layer id o l.tree s
  gained inserted = (
    part_of l.ids,
    subst (λ (k : ℕ). IsInsertion k layer.fanout (part_of l.ids) (object o id) 0 l.tree s) (sym is_dims)
        (subst (λ (k : ℕ). IsInsertion dims k (part_of l.ids) (object o id) 0 l.tree s) (sym is_most)
        inserted),
  )

-- ---- the layer has other objects

module _ {D A : Type 0} {m : _} (kept : Layers D A m) (t : Table) (name : List ℕ) (place : ℕ)
    (sound : IsSound kept t) (finds : Finds t name place)
    (located : Located)
    (by_record : (d : Record) → whereabouts_of located ≡ located_by
    (get_or (records_of kept.records) place d))
    (dims : ℕ) (is_dims : (layer_at t name).dims ≡ dims) where
  abbrev pub read : LayerPages
  read = (reading kept t name place sound finds).pages

  pub fanout_there : (layer_at t name).fanout ≡ located.fanout.most
  fanout_there =
      fanout_here kept t name place sound finds located
      (by_row kept t name place sound finds located by_record dims is_dims) dims is_dims

  module _ (cache : PageCache D A m) (root : Root) (objects : Objects) (IsSo : Tree → Type 0)
      (became : BecomesLayer dims located.fanout.most (pages kept.cache) (pages cache) (part_of_layer read)
      (kind_of read.ids) root located.ids_root objects IsSo)
      (new : Layers D A m) (same : new.cache ≡ cache) (count : ℕ) (counts : len objects ≡ count)
      (can : CanBeRoot root) (le : next_of kept.cache ≤ next_of cache)
      (version : version_of cache ≡ version_of kept.cache)
      (few : object_count (map_insert t name (record (layer_at t name) { objects = objects })) ≤ most_objects)
      (records : (d : Record)
      → records_of new.records ≡ slice_set (records_of kept.records) place
      (with_tree (get_or (records_of kept.records) place d) root count)) where
    became_new : BecomesLayer dims located.fanout.most (pages kept.cache) (pages new.cache)
        (part_of_layer read)
        (kind_of read.ids) root located.ids_root objects IsSo
    became_new =
        subst (λ (x : PageCache D A m). BecomesLayer dims located.fanout.most (pages kept.cache) (pages x)
        (part_of_layer read) (kind_of read.ids) root located.ids_root objects IsSo) (sym same) became

    later : next_of kept.cache ≤ next_of new.cache
    later = subst (λ (x : PageCache D A m). next_of kept.cache ≤ next_of x) (sym same) le

    same_version : version_of new.cache ≡ version_of kept.cache
    same_version = subst (λ (x : PageCache D A m). version_of x ≡ version_of kept.cache) (sym same) version

    -- the layers are sound with them
    pub sound_with : IsPageMap cache
        → new.object_count ≡ object_count
        (map_insert t name (record (layer_at t name) { objects = objects })) → new.written ≡ false
        → IsSound new (map_insert t name (record (layer_at t name) { objects = objects }))
    sound_with is_map total unwritten =
        sound_replaced kept t name place sound finds located
        (by_row kept t name place sound finds located by_record dims is_dims) dims is_dims new root
        objects IsSo became_new count (sym (len-entries objects) ∙ counts)
        can.level later same_version few records (subst (λ (x : PageCache D A m). IsPageMap x) (sym same) is_map) total
        unwritten

    -- and its tree is so
    pub tree_with : (Rule : Tree → Tree → Type 0) → ((s : Tree) → IsSo s → Rule read.tree s)
        → ChangesTree kept new name Rule
    tree_with Rule so =
        tree_replaced kept t name place sound finds located
        (by_row kept t name place sound finds located by_record dims is_dims) dims is_dims new root
        objects IsSo became_new count (sym (len-entries objects) ∙ counts)
        can.level later same_version few records Rule (so became_new.layer.tree)

  -- ---- an object was taken out

  module _ (id : ℕ) (o : Object) (there : get (layer_at t name).objects id ≡ Some o)
      (cache : PageCache D A m) (root : Root)
      (became : BecomesLayer dims located.fanout.most (pages kept.cache) (pages cache) (part_of_layer read)
      (kind_of read.ids) root located.ids_root (remove (layer_at t name).objects id)
      (HasRemoved dims located.fanout.most read id o))
      (new : Layers D A m) (same : new.cache ≡ cache) (was count : ℕ)
      (was_is : (d : Record) → was ≡ (get_or (records_of kept.records) place d).count)
      (count_is : count ≡ was - 1)
      (can : CanBeRoot root) (le : next_of kept.cache ≤ next_of cache)
      (version : version_of cache ≡ version_of kept.cache)
      (records : (d : Record)
      → records_of new.records ≡ slice_set (records_of kept.records) place
      (with_tree (get_or (records_of kept.records) place d) root count)) where
    less : len (remove (layer_at t name).objects id) + 1 ≡ len (layer_at t name).objects
    less = one_object_less (layer_at t name) id o there

    counts : len (remove (layer_at t name).objects id) ≡ count
    counts = omega (arith, less, count_is, counted_there kept t name place sound finds was was_is)

    fewer : object_count (map_insert t name (without_object (layer_at t name) id)) + 1 ≡ object_count t
    fewer = omega (arith, less, count_replaced t name place finds (without_object (layer_at t name) id))

    few : object_count (map_insert t name (without_object (layer_at t name) id)) ≤ most_objects
    few = omega (arith, fewer, sound.counted, sound.within)

    -- the layers are sound without it
    pub sound_taken : IsPageMap cache → new.object_count ≡ kept.object_count - 1 → new.written ≡ false
        → IsSound new (map_insert t name (without_object (layer_at t name) id))
    sound_taken is_map total unwritten =
        sound_with cache root (remove (layer_at t name).objects id)
        (HasRemoved dims located.fanout.most read id o) became new same count counts can le version few
        records
        is_map
        (omega (arith, total, fewer, sound.counted)) unwritten

    -- and the tree of the layer became one by a lawful removal
    pub tree_taken : ChangesTree kept new name (HasLost (layer_at t name) id)
    tree_taken =
        tree_with cache root (remove (layer_at t name).objects id)
        (HasRemoved dims located.fanout.most read id o)
        became new same count counts can le version few records (HasLost (layer_at t name) id)
        (λ s removed. lost (layer_at t name) dims located.fanout.most is_dims fanout_there read id o s
        (its_object (layer_at t name) id o there) removed)
