-- Why a move of an object is refused, and what one that is not does to its layer.
use Rattle.std.proofs.Common.{◌≡◌, ◌∙◌, ℕ, ◌+◌, ◌≤◌, List, Bool, true, false, not, ◌&&◌, cond, get_or, Option}
use Rattle.std.proofs.Common.{Some, None, refl, sym, ap, subst, arith}
use Rattle.std.specs.Prelude.{◌==◌, is_some, slice_set}
use Rattle.std.specs.Cmp.{nat_cmp_total}
use Rattle.std.specs.FinMap.{get, insert as map_insert, len, len-insert}
use Rattle.box_math.specs.Bounds.{Bounds}
use Rattle.box_math.specs.Objects.{Object, bounds_of, tag_of}
use Rattle.catalog_page.specs.Layout.{Record, records_of}
use Rattle.id_table.specs.Table.{kind_of}
use Rattle.layer_pages.specs.Changes.{BecomesLayer, HasReplaced}
use Rattle.layer_pages.specs.Layers.{CanBeRoot, part_of_layer}
use Rattle.page_cache.specs.Cache.{IsPageMap, next_of, pages, version_of}
use Rattle.page_cache.specs.declared.cache.PageCache.{PageCache}
use Rattle.plain_table.specs.Boxes.{dims_of, given_bounds, is_ordered, same_bounds}
use Rattle.plain_table.specs.Commands.Command.{Move}
use Rattle.plain_table.specs.Step.{box_refusals, changes, first_refusal, missing_refusals, refusal_of}
use Rattle.plain_table.specs.Table.{Layer, Table, layer_at, most_objects, object_box, object_count}
use Rattle.plain_table.specs.Table.{with_object}
use Rattle.plain_table.specs.declared.boxes.RawBox.{RawBox}
use Rattle.plain_table.specs.declared.refusal.Refusal.{Refusal}
use Rattle.tree_node.specs.declared.node.Root.{Root}
use Rattle.live_layers.specs.Catalog.{with_tree}
use Rattle.live_layers.specs.Keeping.{ChangesTree, Finds, IsSound}
use Rattle.live_layers.specs.Located.{located_by, whereabouts_of}
use Rattle.live_layers.specs.Questions.{IsNamed}
use Rattle.live_layers.specs.Rules.{HasGained, HasMoved}
use Rattle.live_layers.specs.declared.layers.Layers.{Layers}
use Rattle.live_layers.specs.declared.located.Located.{Located}
use Rattle.live_layers.proofs.LoadLemmas.{counted_there}
use Rattle.live_layers.proofs.ReplaceLemmas.{count_replaced}
use Rattle.live_layers.proofs.TakeLemmas.{fanout_there, gained, its_object, lost, read, sound_with, tree_with}

-- ---- refusals

module _ (layer : Layer) (id : ℕ) (box : RawBox) where
  pub good_box : (dims_of box == layer.dims) ≡ true → is_ordered (dims_of box) (given_bounds box) ≡ true
      → first_refusal (box_refusals layer.dims box (missing_refusals layer id)) ≡ first_refusal
      (missing_refusals layer id)
  good_box e f = rw (e, f) refl

module _ (t : Table) (name : List ℕ) (id : ℕ) (box : RawBox) (named : IsNamed t name) where
  pub as_move : refusal_of t (Move name id box) ≡ first_refusal
      (box_refusals (layer_at t name).dims box (missing_refusals (layer_at t name) id))
  as_move = named (box_refusals (layer_at t name).dims box (missing_refusals (layer_at t name) id))

-- one that is not refused changes the table, unless the object has that box
module _ (t : Table) (name : List ℕ) (id : ℕ) (box : RawBox) (known : Object)
    (there : get (layer_at t name).objects id ≡ Some known)
    (none : refusal_of t (Move name id box) ≡ None) where
  tested : changes t (Move name id box) ≡ not
      (same_bounds (object_box (layer_at t name) id) (given_bounds box))
  tested =
      ap (λ (o : Option Refusal). not (is_some o)
      && not (same_bounds (object_box (layer_at t name) id) (given_bounds box))) none

  pub tested_boxes : (b : Bounds) → b ≡ given_bounds box
      → changes t (Move name id box) ≡ not (same_bounds (bounds_of known) b)
  tested_boxes b is = tested
      ∙ (λ i. not (same_bounds (bounds_of (sym (its_object (layer_at t name) id known there) i)) (sym is i)))

-- what is refused changes nothing
pub refused_move : (t : Table) (name : List ℕ) (id : ℕ) (box : RawBox) (r : Refusal)
    → refusal_of t (Move name id box) ≡ Some r → changes t (Move name id box) ≡ false
refused_move t name id box r why =
    ap (λ (o : Option Refusal). not (is_some o)
    && not (same_bounds (object_box (layer_at t name) id) (given_bounds box))) why

-- ---- the layer has as many objects as before

pub as_many_objects : (layer : Layer) (id : ℕ) (known o : Object) → get layer.objects id ≡ Some known
    → len (with_object layer id o).objects ≡ len layer.objects
as_many_objects layer id known o there = len-insert nat_cmp_total layer.objects id o
    ∙ ap (λ (has : Bool). cond has (len layer.objects) (len layer.objects + 1)) (ap is_some there)

module _ {D A : Type 0} {m : _} (kept : Layers D A m) (t : Table) (name : List ℕ) (place : ℕ)
    (sound : IsSound kept t) (finds : Finds t name place)
    (located : Located)
    (by_record : (d : Record) → whereabouts_of located ≡ located_by
    (get_or (records_of kept.records) place d))
    (dims : ℕ) (is_dims : (layer_at t name).dims ≡ dims)
    (id : ℕ) (known : Object) (bounds : Bounds) (there : get (layer_at t name).objects id ≡ Some known)
    (cache : PageCache D A m) (root : Root)
    (became : BecomesLayer dims located.fanout.most (pages kept.cache) (pages cache)
    (part_of_layer (read kept t name place sound finds located by_record dims is_dims))
    (kind_of (read kept t name place sound finds located by_record dims is_dims).ids) root
    located.ids_root (map_insert (layer_at t name).objects id (bounds, tag_of known))
    (HasReplaced dims located.fanout.most (read kept t name place sound finds located by_record dims is_dims)
    id
    known (bounds, tag_of known)))
    (new : Layers D A m) (same : new.cache ≡ cache) (count : ℕ)
    (count_is : (d : Record) → count ≡ (get_or (records_of kept.records) place d).count)
    (can : CanBeRoot root) (le : next_of kept.cache ≤ next_of cache)
    (version : version_of cache ≡ version_of kept.cache)
    (records : (d : Record)
    → records_of new.records ≡ slice_set (records_of kept.records) place
    (with_tree (get_or (records_of kept.records) place d) root count)) where
  counts : len (map_insert (layer_at t name).objects id (bounds, tag_of known)) ≡ count
  counts = as_many_objects (layer_at t name) id known (bounds, tag_of known) there
      ∙ counted_there kept t name place sound finds count count_is

  as_many : object_count
      (map_insert t name (with_object (layer_at t name) id (bounds, tag_of known))) ≡ object_count t
  as_many =
      omega (
        arith,
        as_many_objects (layer_at t name) id known (bounds, tag_of known) there,
        count_replaced t name place finds (with_object (layer_at t name) id (bounds, tag_of known)),
      )

  few : object_count
      (map_insert t name (with_object (layer_at t name) id (bounds, tag_of known))) ≤ most_objects
  few = omega (arith, as_many, sound.counted, sound.within)

  -- the layers are sound with the box
  pub sound_moved : IsPageMap cache → new.object_count ≡ kept.object_count → new.written ≡ false
      → IsSound new (map_insert t name (with_object (layer_at t name) id (bounds, tag_of known)))
  sound_moved is_map total unwritten =
      sound_with kept t name place sound finds located by_record dims is_dims cache root
      (map_insert (layer_at t name).objects id (bounds, tag_of known))
      (HasReplaced dims located.fanout.most (read kept t name place sound finds located by_record dims
      is_dims) id
      known (bounds, tag_of known)) became new same count counts can le version few records
      is_map
      (total ∙ sound.counted ∙ sym as_many) unwritten

  -- and the tree of the layer became one by a lawful removal and a lawful insertion
  pub tree_moved : ChangesTree kept new name (HasMoved (layer_at t name) id bounds)
  tree_moved =
      let layer = layer_at t name in
      let l = read kept t name place sound finds located by_record dims is_dims in
      let most = fanout_there kept t name place sound finds located by_record dims is_dims in
      tree_with kept t name place sound finds located by_record dims is_dims cache root
      (map_insert layer.objects id (bounds, tag_of known))
      (HasReplaced dims located.fanout.most l id known (bounds, tag_of known)) became new same count counts
      can le version few records
      (HasMoved layer id bounds)
      (λ s replaced. record {
        between = replaced.between;
        removed =
            lost layer dims located.fanout.most is_dims most l id known replaced.between
            (its_object layer id known there) replaced.removed;
        inserted =
            subst (λ (o : Object). HasGained layer id (bounds, tag_of o) replaced.between s)
            (its_object layer id known there)
            (gained layer dims located.fanout.most is_dims most
            (record { tree = replaced.between; ids = l.ids })
            id (bounds, tag_of known) s replaced.inserted);
      })
