-- Layers with an object fewer.
use Rattle.std.proofs.Common.{◌≡◌, ◌∙◌, ℕ, ◌≤◌, true, Some, ap}
use Rattle.std.specs.FinMap as map
use Rattle.std.specs.List.{Contains}
use Rattle.std.specs.Prelude.{is_some}
use Rattle.box_math.specs.Objects.{Object}
use Rattle.tree_node.specs.Trees.{objects_in, occurs_in}
use Rattle.tree_node.specs.declared.node.Root.{Root}
use Rattle.node_page.specs.Standing.{PageMap}
use Rattle.id_table.specs.Changes.{Removes}
use Rattle.id_table.specs.Table.{IdsStand, kind_of, objects_of, part_of}
use Rattle.condense.specs.Removed.{CanRemove, RemovesTo}
use Rattle.condense.proofs.ObjectLemmas.{removal_keeps_objects}
use Rattle.condense.proofs.ShapeLemmas.{removal_keeps_shape}
use Rattle.layer_pages.specs.Changes.{BecomesLayer, HasRemoved}
use Rattle.layer_pages.specs.Layers.{IsLayerAt, LayerPages, Objects, part_of_layer}
use Rattle.layer_pages.proofs.LayerLemmas.{ids_live, ids_still, layer_changed, root_of}
use Rattle.layer_pages.proofs.ObjectLemmas.{fewer_leaves, object_known, object_there}

-- ---- an object fewer

module _ (dims most : ℕ) (old : PageMap) (root : Root) (ids_root : ℕ) (l : LayerPages) (objects : Objects)
    (is : IsLayerAt dims most old root ids_root l objects) where
  pub can_remove : CanRemove dims old root l.tree (part_of l.ids)
  can_remove = record {
    at = root_of dims most old root ids_root l objects is;
    stands = is.tree.stands;
    apart = is.once;
    live = ids_live dims most old root ids_root l objects is;
  }

  module _ (id : ℕ) (kept : Object) where
    pub in_a_leaf : map.get objects id ≡ Some kept → Contains (objects_in l.tree.row) (id, kept)
    in_a_leaf there = object_there (objects_in l.tree.row) objects id kept is.leaves there

    pub in_no_leaf : ¬ (map.get objects id ≡ Some kept) → ¬ Contains (objects_in l.tree.row) (id, kept)
    in_no_leaf absent held = absent (object_known (objects_in l.tree.row) objects id kept is.leaves held)

    pub kept_in_table : map.get objects id ≡ Some kept → map.get (objects_of l.ids) id ≡ Some kept
    kept_in_table there = ap (λ (m : Objects). map.get m id) is.table ∙ there

    pub in_table : map.get objects id ≡ Some kept → map.contains_key (objects_of l.ids) id ≡ true
    in_table there = ap is_some (kept_in_table there)

    module _ (mid : PageMap) (after : Root)
        (to : RemovesTo dims most old mid (part_of l.ids) id kept l.tree after) where
      pub ids_between : IdsStand dims mid l.ids
      ids_between = ids_still dims most old root ids_root l objects is mid (λ n. occurs_in n to.new) to.moves

      pub layer_removed : (new : PageMap) → Removes dims mid new l.ids id → 4 ≤ most
          → map.get objects id ≡ Some kept
          → BecomesLayer dims most old new (part_of_layer l) (kind_of l.ids) after ids_root
          (map.remove objects id)
          (HasRemoved dims most l id kept)
      layer_removed new ids four there =
          let shape =
          removal_keeps_shape dims most (part_of l.ids) id kept l.tree to.new to.removal four is.boxes
          is.tree.shape in
          layer_changed dims most old root ids_root l objects is mid new to.new ids.table to.moves ids.moves
          after (map.remove objects id) (HasRemoved dims most l id kept) to.at to.stands shape.0 shape.1
          ids.kind_is ids.page_is ids.stands
          (ids.objects ∙ ap (λ (m : Objects). map.remove m id) is.table)
          (fewer_leaves _ _ objects id kept
          (removal_keeps_objects dims most (part_of l.ids) id kept l.tree to.new to.removal) is.leaves
          there) to.removal
