-- A layer in which an object has got another box.
use Rattle.std.proofs.Common.{◌≡◌, ◌∙◌, ℕ, ◌≤◌, Some, refl, ap, subst, arith}
use Rattle.std.specs.FinMap as map
use Rattle.std.specs.FinMap.{entries}
use Rattle.std.specs.Prelude.{IsPermutation}
use Rattle.box_math.specs.Bounds.{IsBox}
use Rattle.box_math.specs.Objects.{Object, bounds_of, tag_of}
use Rattle.tree_node.specs.Boxes.{RowHasBoxes}
use Rattle.tree_node.specs.Shape.{HasShape}
use Rattle.tree_node.specs.Trees.{object, objects_in, occurs_in}
use Rattle.tree_node.specs.declared.node.Root.{Root}
use Rattle.node_page.specs.Parts.{Moves, both}
use Rattle.node_page.specs.Standing.{PageMap}
use Rattle.node_page.proofs.PartLemmas.{moves_beside, moves_in_turn}
use Rattle.id_table.specs.Changes.{Sets}
use Rattle.id_table.specs.Table.{IdsStand, kind_of, part_of}
use Rattle.id_table.proofs.TableLemmas.{ids_there}
use Rattle.reinsert.specs.Inserted.{CanInsert, InsertsTo}
use Rattle.reinsert.proofs.ObjectLemmas.{insertion_keeps_objects}
use Rattle.reinsert.proofs.ShapeLemmas.{insertion_keeps_shape}
use Rattle.condense.specs.Removed.{RemovesTo}
use Rattle.condense.proofs.ObjectLemmas.{removal_keeps_objects}
use Rattle.condense.proofs.ShapeLemmas.{removal_keeps_shape}
use Rattle.layer_pages.specs.Changes.{BecomesLayer, HasReplaced}
use Rattle.layer_pages.specs.Layers.{IsLayerAt, LayerPages, Objects, part_of_layer}
use Rattle.layer_pages.proofs.LayerLemmas.{ids_live, ids_still, layer_changed}
use Rattle.layer_pages.proofs.MadeLemmas.{entry_has_shape, tree_alone}
use Rattle.layer_pages.proofs.ObjectLemmas.{fewer_leaves, gone, more_leaves, put_anew}
use Rattle.layer_pages.proofs.RemovedLemmas.{ids_between}

-- the tree lost the object with its old box
module _ (dims most : ℕ) (old : PageMap) (root : Root) (ids_root : ℕ) (l : LayerPages) (objects : Objects)
    (is : IsLayerAt dims most old root ids_root l objects) (four : 4 ≤ most)
    (id : ℕ) (was now : Object) (mid : PageMap) (between : Root)
    (to : RemovesTo dims most old mid (part_of l.ids) id was l.tree between) where
  pub shape_between : HasShape dims most to.new × RowHasBoxes dims to.new.row
  shape_between =
      removal_keeps_shape dims most (part_of l.ids) id was l.tree to.new to.removal four is.boxes
      is.tree.shape

  beside : Moves old mid (both (λ n. occurs_in n l.tree) (part_of l.ids))
      (both (λ n. occurs_in n to.new) (part_of l.ids))
  beside =
      moves_beside old mid (λ n. occurs_in n l.tree) (λ n. occurs_in n to.new) (part_of l.ids) to.moves
      (ids_live dims most old root ids_root l objects is) is.once

  pub can_insert_between : CanInsert dims mid between
      (record { bounds = bounds_of now; reference = id; tag = tag_of now }) 0 to.new (object now id)
      (part_of l.ids)
  can_insert_between = record {
    at = to.at;
    stands = to.stands;
    entry = refl;
    entry_stands = (refl, tt);
    fits = omega arith;
    apart = λ n. omega (arith, beside.once n);
    live = λ n here. ids_there dims mid l.ids n
        (ids_between dims most old root ids_root l objects is id was mid between to) here;
  }

  -- and then got it with the new one
  module _ (changed : PageMap) (after : Root)
      (into : InsertsTo dims most mid changed 0 to.new (object now id) (part_of l.ids) after) where
    tree_moves : Moves old changed (λ n. occurs_in n l.tree) (λ n. occurs_in n into.new)
    tree_moves =
        moves_in_turn old mid changed (λ n. occurs_in n l.tree) (λ n. occurs_in n to.new)
        (λ n. occurs_in n into.new) to.moves
        (tree_alone dims most mid changed to.new id now (part_of l.ids) after into)

    pub ids_unchanged : IdsStand dims changed l.ids
    ids_unchanged =
        ids_still dims most old root ids_root l objects is changed (λ n. occurs_in n into.new) tree_moves

    -- and so does the table
    pub layer_replaced : (new : PageMap) → Sets dims changed new l.ids id now → IsBox dims (bounds_of now)
        → map.get objects id ≡ Some was
        → BecomesLayer dims most old new (part_of_layer l) (kind_of l.ids) after ids_root
        (map.insert objects id now)
        (HasReplaced dims most l id was now)
    layer_replaced new ids box there =
        let shape =
        insertion_keeps_shape dims most (part_of l.ids) (object now id) 0 to.new into.new into.insertion
        (omega (arith, four)) (entry_has_shape dims most old root ids_root l objects is id now box)
        shape_between.1 shape_between.0 in
        let fewer =
        fewer_leaves _ _ objects id was
        (removal_keeps_objects dims most (part_of l.ids) id was l.tree to.new to.removal) is.leaves
        there in
        let leaves =
        more_leaves _ _ (map.remove objects id) id now
        (insertion_keeps_objects dims most (part_of l.ids) (object now id) 0 to.new into.new
        into.insertion) fewer (gone objects id) in
        layer_changed dims most old root ids_root l objects is changed new into.new ids.table tree_moves
        ids.moves after (map.insert objects id now) (HasReplaced dims most l id was now) into.at
        into.stands shape.0 shape.1 ids.kind_is ids.page_is ids.stands
        (ids.objects ∙ ap (λ (m : Objects). map.insert m id now) is.table)
        (subst (λ (m : Objects). IsPermutation (objects_in into.new.row) (entries m))
        (put_anew objects id now) leaves)
        (record { between = to.new; removed = to.removal; inserted = into.insertion })
