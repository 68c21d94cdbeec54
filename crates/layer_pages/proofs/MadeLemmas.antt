-- Layers that were made, or have an object more.
use Rattle.std.proofs.Common.{◌≡◌, ◌∙◌, ℕ, ◌+◌, ◌≤◌, false, Option, Some, None, List, [], refl, sym, ap}
use Rattle.std.proofs.Common.{subst, arith}
use Rattle.std.specs.FinMap as map
use Rattle.std.specs.Prelude.{IsSome}
use Rattle.box_math.specs.Bounds.{IsBox}
use Rattle.box_math.specs.Objects.{Object, bounds_of, tag_of}
use Rattle.page_file.specs.Pages.{SameBut}
use Rattle.tree_node.specs.Nodes.{NodeContent}
use Rattle.tree_node.specs.Trees.{Tree, Branch, end, object, occurs_in}
use Rattle.tree_node.specs.declared.node.Root.{Root}
use Rattle.node_page.specs.Parts.{Moves, Part, both, no_page, one_page}
use Rattle.node_page.specs.Standing.{PageMap, Stands, node_in}
use Rattle.node_page.proofs.ChangeLemmas.{trees_beside_stand}
use Rattle.node_page.proofs.PartLemmas.{moves_same, one_page_moves}
use Rattle.id_table.specs.Changes.{Makes, Sets}
use Rattle.id_table.specs.Table.{IdsStand, kind_of, objects_of, part_of}
use Rattle.id_table.specs.declared.kind.TableKind.{TableKind}
use Rattle.reinsert.specs.Inserted.{CanInsert, InsertsTo}
use Rattle.reinsert.specs.Kept.{EntryHasShape}
use Rattle.reinsert.proofs.ObjectLemmas.{insertion_keeps_objects}
use Rattle.reinsert.proofs.ShapeLemmas.{insertion_keeps_shape}
use Rattle.layer_pages.specs.Changes.{BecomesLayer, HasInserted, IsEmptyLeaf}
use Rattle.layer_pages.specs.Layers.{IsLayerAt, LayerPages, Objects, part_of_layer}
use Rattle.layer_pages.proofs.LayerLemmas.{both_change, ids_live, ids_still, layer_changed, root_of}
use Rattle.layer_pages.proofs.ObjectLemmas.{more_leaves, no_objects}

-- ---- an empty leaf and an empty table

node_there : (dims : ℕ) (page : Option (List ℕ)) (c : NodeContent) → node_in dims page ≡ Some c → IsSome page
node_there dims None c e = absurd (cc)
node_there dims (Some bytes) c e = refl

module _ (dims most : ℕ) (old mid new : PageMap) (page ids_root : ℕ) (fresh : old page ≡ None)
    (leaf : node_in dims (mid page) ≡ Some (record { level = 0; entries = [] }))
    (others : SameBut page old mid) (kind : TableKind) (ids : Makes dims mid new kind ids_root) where
  empty_tree : Tree
  empty_tree = record { page = page; level = 0; row = end }

  leaf_comes : Moves old mid no_page (λ n. occurs_in n empty_tree)
  unfolding empty_tree
  leaf_comes =
      moves_same old mid no_page no_page (one_page page) (λ n. occurs_in n empty_tree) (λ n. refl)
      (λ n. omega arith)
      ((one_page_moves old mid page others).0 fresh (node_there dims (mid page) _ leaf))

  leaf_stands : Stands dims mid empty_tree
  unfolding empty_tree
  leaf_stands = record { root = leaf; below = tt; distinct = leaf_comes.once }

  all_moves : Moves old new (both no_page no_page) (both (λ n. occurs_in n empty_tree) (part_of ids.table))
  all_moves =
      both_change old mid new no_page (λ n. occurs_in n empty_tree) no_page (part_of ids.table) leaf_comes
      ids.moves (λ n here. absurd (omega (arith, here))) (λ n. omega arith)

  pub layer_made : BecomesLayer dims most old new no_page kind (record { page = page; level = 0 }) ids_root
      map.empty IsEmptyLeaf
  unfolding empty_tree
  layer_made = record {
    layer = record { tree = empty_tree; ids = ids.table };
    kind_is = ids.kind_is;
    stands = record {
      tree = record {
        page_is = refl;
        level_is = refl;
        stands =
            (trees_beside_stand dims mid new no_page (part_of ids.table) empty_tree ids.moves leaf_stands
            (λ n here. refl)).0;
        shape = record {
          levels = tt;
          few = omega arith;
          some = λ above. absurd (omega (arith, above));
          below = tt;
        };
      };
      boxes = tt;
      ids_root_is = ids.page_is;
      ids = ids.stands;
      leaves = no_objects;
      table = ids.objects;
      once = all_moves.once;
    };
    tree_is = record { level = refl; row = refl };
    moves = moves_same old new (both no_page no_page) no_page
        (both (λ n. occurs_in n empty_tree) (part_of ids.table))
        (part_of_layer (record { tree = empty_tree; ids = ids.table })) (λ n. refl) (λ n. refl) all_moves;
  }

-- ---- an object more

-- an entry of a leaf has no pages
pub tree_alone : (dims most : ℕ) (old new : PageMap) (t : Tree) (id : ℕ) (kept : Object) (elsewhere : Part)
    (after : Root) → (to : InsertsTo dims most old new 0 t (object kept id) elsewhere after)
    → Moves old new (λ n. occurs_in n t) (λ n. occurs_in n to.new)
tree_alone dims most old new t id kept elsewhere after to =
    moves_same old new (λ n. occurs_in n t + 0) (λ n. occurs_in n t) (λ n. occurs_in n to.new)
    (λ n. occurs_in n to.new) (λ n. omega arith) (λ n. refl) to.moves

module _ (dims most : ℕ) (old : PageMap) (root : Root) (ids_root : ℕ) (l : LayerPages) (objects : Objects)
    (is : IsLayerAt dims most old root ids_root l objects) (id : ℕ) (kept : Object) where
  abbrev pub branch : Branch
  branch = object kept id

  pub can_insert : CanInsert dims old root
      (record { bounds = bounds_of kept; reference = id; tag = tag_of kept }) 0 l.tree branch (part_of l.ids)
  can_insert = record {
    at = root_of dims most old root ids_root l objects is;
    stands = is.tree.stands;
    entry = refl;
    entry_stands = (refl, tt);
    fits = omega arith;
    apart = λ n. omega (arith, is.once n);
    live = ids_live dims most old root ids_root l objects is;
  }

  pub entry_has_shape : IsBox dims (bounds_of kept) → EntryHasShape dims most 0 branch
  entry_has_shape box = (tt, (box, tt), (refl, tt))

  module _ (mid : PageMap) (after : Root)
      (to : InsertsTo dims most old mid 0 l.tree branch (part_of l.ids) after) where
    tree_moves : Moves old mid (λ n. occurs_in n l.tree) (λ n. occurs_in n to.new)
    tree_moves = tree_alone dims most old mid l.tree id kept (part_of l.ids) after to

    pub ids_meanwhile : IdsStand dims mid l.ids
    ids_meanwhile =
        ids_still dims most old root ids_root l objects is mid (λ n. occurs_in n to.new) tree_moves

    pub absent_meanwhile : map.contains_key objects id ≡ false
        → map.contains_key (objects_of l.ids) id ≡ false
    absent_meanwhile absent = subst (λ (m : Objects). map.contains_key m id ≡ false) (sym is.table) absent

    pub layer_inserted : (new : PageMap) → Sets dims mid new l.ids id kept → 2 ≤ most
        → IsBox dims (bounds_of kept) → map.contains_key objects id ≡ false
        → BecomesLayer dims most old new (part_of_layer l) (kind_of l.ids) after ids_root
        (map.insert objects id kept)
        (HasInserted dims most l id kept)
    layer_inserted new ids two box absent =
        let shape =
        insertion_keeps_shape dims most (part_of l.ids) branch 0 l.tree to.new to.insertion two
        (entry_has_shape box) is.boxes is.tree.shape in
        layer_changed dims most old root ids_root l objects is mid new to.new ids.table tree_moves ids.moves
        after (map.insert objects id kept) (HasInserted dims most l id kept) to.at to.stands shape.0
        shape.1 ids.kind_is ids.page_is ids.stands
        (ids.objects ∙ ap (λ (m : Objects). map.insert m id kept) is.table)
        (more_leaves _ _ objects id kept
        (insertion_keeps_objects dims most (part_of l.ids) branch 0 l.tree to.new to.insertion) is.leaves
        absent) to.insertion
