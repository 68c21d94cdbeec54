-- All objects of a layer at once: a packed tree beside the old one, and then the table.
use Rattle.std.proofs.Common.{◌≡◌, ◌∙◌, ℕ, zero, suc, ◌^◌, ◌<◌, ◌≤◌, List, [], ◌∷◌, ◌++◌, map as each, length}
use Rattle.std.proofs.Common.{All, IsSome, refl, sym, ap, subst, arith}
use Rattle.std.specs.Prelude.{IsPermutation}
use Rattle.std.specs.FinMap as map
use Rattle.std.specs.FinMap.{entries}
use Rattle.std.proofs.lemmas.List.Elements.{All-map}
use Rattle.std.proofs.lemmas.List.Sorted.{All-permutation, IsPermutation-map, IsPermutation-sym}
use Rattle.std.proofs.lemmas.List.Sorted.{IsPermutation-trans}
use Rattle.box_math.specs.Bounds.{IsBox}
use Rattle.box_math.specs.Objects.{bounds_of}
use Rattle.bucket_page.specs.Layout.{Entry}
use Rattle.page_cache.specs.Cache.{next_of, pages}
use Rattle.page_cache.specs.Laws.{a_live_page_was_given_out, the_catalog_is_live}
use Rattle.page_cache.specs.declared.cache.PageCache.{PageCache}
use Rattle.tree_node.specs.Boxes.{box_at}
use Rattle.tree_node.specs.Nodes.{Item, item_of, items_of}
use Rattle.tree_node.specs.Trees.{objects_in, occurs_in}
use Rattle.tree_node.specs.declared.node.Entry.{Entry as Leaf}
use Rattle.tree_node.specs.declared.node.Root.{Root}
use Rattle.node_page.specs.Checked.{pairs_of}
use Rattle.node_page.specs.Parts.{Moves, both, no_page}
use Rattle.node_page.specs.Standing.{PageMap, Stands}
use Rattle.node_page.proofs.ChangeLemmas.{trees_beside_stand}
use Rattle.node_page.proofs.PartLemmas.{moves_same, there_not_missing}
use Rattle.node_page.proofs.RootedLemmas.{loose}
use Rattle.node_page.proofs.StandingLemmas.{pages_are_there}
use Rattle.id_words.specs.Objects.{AreNew, with_all}
use Rattle.id_table.specs.Changes.{Fills}
use Rattle.id_table.specs.Table.{kind_of, objects_of, part_of}
use Rattle.id_table.proofs.TableLemmas.{ids_beside}
use Rattle.bulk_load.specs.Loads.{Loads}
use Rattle.reinsert.proofs.LevelLemmas.{shape_bounds_level}
use Rattle.id_words.specs.Objects.{pairs_in}
use Rattle.layer_pages.specs.Changes.{BecomesLayer, BecomesTable, HasPacked, item_of_object}
use Rattle.layer_pages.specs.Laws.{NewObjectsAreEntries}
use Rattle.layer_pages.specs.Layers.{CanBeRoot, IsLayerAt, LayerPages, Objects, part_of_layer}
use Rattle.tree_node.proofs.RowLemmas.{occurs_here}
use Rattle.layer_pages.proofs.LayerLemmas.{both_change, layers_beside, made_apart}
use Rattle.layer_pages.proofs.LayerLemmas.{pages_of_a_layer}
use Rattle.layer_pages.proofs.ObjectLemmas.{all_are_new, entries_of_all, no_entries, row_boxes}

-- ---- objects and entries of leaves

abbrev object_of : Item → Entry
object_of item = (item.reference, (item.bounds, item.tag))

pub as_items : (items : List Item) → each item_of_object (pairs_of items) ≡ items
as_items [] = refl
as_items (item ∷ items) = ap (λ (is : List Item). item ∷ is) (as_items items)

pub all_boxes : (dims : ℕ) (items : List Item) → ((i : ℕ) → i < length items → IsBox dims (box_at items i))
    → All (λ (item : Item). IsBox dims item.bounds) items
all_boxes dims [] boxes k d within = absurd (omega (arith, within))
all_boxes dims (item ∷ items) boxes zero d within = boxes 0 (omega arith)
all_boxes dims (item ∷ items) boxes (suc k) d within =
    all_boxes dims items (λ i below. boxes (suc i) (omega (arith, below))) k d (omega (arith, within))

-- entries in another order have the same objects
pub listed_again : {D : ℕ} (old new : List (Leaf D)) (all : Objects) → IsPermutation old new
    → IsPermutation (pairs_in old) (entries all) → IsPermutation (pairs_in new) (entries all)
listed_again old new all moved same =
    IsPermutation-trans (pairs_in new) (pairs_in old) (entries all)
    (IsPermutation-sym (pairs_in old) (pairs_in new)
    (IsPermutation-map object_of (items_of old) (items_of new) (IsPermutation-map item_of old new moved)))
    same

-- ---- the table

pub new_objects_are_entries : NewObjectsAreEntries
new_objects_are_entries pairs fresh =
    subst (λ (es : List Entry). IsPermutation (es ++ pairs) (entries (with_all map.empty pairs))) no_entries
    (entries_of_all pairs map.empty fresh)

module _ (dims most : ℕ) (old : PageMap) (root : Root) (ids_root : ℕ) (l : LayerPages)
    (is : IsLayerAt dims most old root ids_root l map.empty) (objects : List Entry) (all : Objects)
    (same : IsPermutation objects (entries all)) where
  both_facts : AreNew (objects_of l.ids) objects × (with_all (objects_of l.ids) objects ≡ all)
  both_facts = all_are_new objects (objects_of l.ids) all
      (subst (λ (es : List Entry). IsPermutation (es ++ objects) (entries all))
      (sym (ap (λ (m : Objects). entries m) is.table ∙ no_entries)) same)

  pub all_new : AreNew (objects_of l.ids) objects
  all_new = both_facts.0

  module _ (mid : PageMap) (fills : Fills dims old mid l.ids objects) where
    pub tree_still : Stands dims mid l.tree
    tree_still =
        (trees_beside_stand dims old mid (part_of l.ids) (part_of fills.table) l.tree fills.moves
        is.tree.stands (λ n here. omega (arith, here, is.once n))).0

    tree_live : (n : ℕ) → 0 < occurs_in n l.tree → IsSome (old n)
    tree_live n here = pages_are_there dims old l.tree n is.tree.stands here

    turned : (n : ℕ) → both (part_of l.ids) (λ n. occurs_in n l.tree) n ≤ 1
    turned n = omega (arith, is.once n)

    pub table_left : (new : PageMap) → Moves mid new (λ n. occurs_in n l.tree) no_page
        → BecomesTable dims old new (part_of_layer l) (kind_of l.ids) ids_root all
    table_left new freed = record {
      table = fills.table;
      kind_is = fills.kind_is;
      page_is = fills.page_is ∙ is.ids_root_is;
      stands = (ids_beside dims mid new (λ n. occurs_in n l.tree) no_page fills.table freed fills.stands
          (made_apart old mid new (part_of l.ids) (part_of fills.table) (λ n. occurs_in n l.tree) no_page
          fills.moves freed tree_live turned)).0;
      objects_are = fills.objects ∙ both_facts.1;
      moves = moves_same old new (both (part_of l.ids) (λ n. occurs_in n l.tree)) (part_of_layer l)
          (both (part_of fills.table) no_page) (part_of fills.table) (λ n. omega arith) (λ n. omega arith)
          (both_change old mid new (part_of l.ids) (part_of fills.table) (λ n. occurs_in n l.tree) no_page
          fills.moves freed tree_live turned);
    }

-- ---- the tree, and the whole layer

as_they_were : (objects : List Entry) → each object_of (each item_of_object objects) ≡ objects
as_they_were [] = refl
as_they_were (o ∷ objects) = ap (λ (os : List Entry). o ∷ os) (as_they_were objects)

module _ (dims most before : ℕ) (old mid : PageMap) (root after : Root) (ids_root : ℕ) (l : LayerPages)
    (is : IsLayerAt dims before old root ids_root l map.empty) (objects : List Entry)
    (loads : Loads dims most old mid (each item_of_object objects) after) where
  -- the layer meanwhile
  pub layer_still : IsLayerAt dims before mid root ids_root l map.empty
  layer_still =
      (layers_beside dims before old mid no_page (λ n. occurs_in n loads.tree) root ids_root l map.empty
      loads.moves is (λ n here. refl)).0

  module _ (new : PageMap) (all : Objects) (same : IsPermutation objects (entries all))
      (boxes : All (λ (item : Item). IsBox dims item.bounds) (each item_of_object objects))
      (ids : BecomesTable dims mid new (part_of_layer l) (kind_of l.ids) ids_root all) where
    all_live : (n : ℕ) → 0 < part_of_layer l n → IsSome (old n)
    all_live n here = pages_of_a_layer dims before old root ids_root l map.empty is n here

    alone : (n : ℕ) → both no_page (part_of_layer l) n ≤ 1
    alone n = omega (arith, is.once n)

    held : IsPermutation objects (objects_in loads.tree.row)
    held = subst (λ (os : List Entry). IsPermutation os (objects_in loads.tree.row)) (as_they_were objects)
        loads.objects

    boxes_held : All (λ (o : Entry). IsBox dims (bounds_of o.1)) (objects_in loads.tree.row)
    boxes_held =
        All-permutation (λ (o : Entry). IsBox dims (bounds_of o.1))
        (each object_of (each item_of_object objects)) (objects_in loads.tree.row) loads.objects
        (All-map (λ (o : Entry). IsBox dims (bounds_of o.1)) object_of (each item_of_object objects) boxes)

    all_moves : Moves old new (both no_page (part_of_layer l))
        (both (λ n. occurs_in n loads.tree) (part_of ids.table))
    all_moves =
        both_change old mid new no_page (λ n. occurs_in n loads.tree) (part_of_layer l) (part_of ids.table)
        loads.moves ids.moves all_live alone

    pub layer_loaded : BecomesLayer dims most old new (part_of_layer l) (kind_of l.ids) after ids_root all
        (HasPacked dims most objects)
    layer_loaded = record {
      layer = record { tree = loads.tree; ids = ids.table };
      kind_is = ids.kind_is;
      stands = record {
        tree = record {
          page_is = loads.page;
          level_is = loads.level;
          stands =
              (trees_beside_stand dims mid new (part_of_layer l) (part_of ids.table) loads.tree ids.moves
              loads.stands
              (made_apart old mid new no_page (λ n. occurs_in n loads.tree) (part_of_layer l)
              (part_of ids.table) loads.moves ids.moves all_live alone)).0;
          shape = loads.shape;
        };
        boxes = row_boxes dims most loads.tree.row loads.shape.below boxes_held;
        ids_root_is = ids.page_is;
        ids = ids.stands;
        leaves =
            IsPermutation-trans (objects_in loads.tree.row) objects (entries all)
            (IsPermutation-sym objects (objects_in loads.tree.row) held) same;
        table = ids.objects_are;
        once = all_moves.once;
      };
      tree_is = loads.packed;
      moves = moves_same old new (both no_page (part_of_layer l)) (part_of_layer l)
          (both (λ n. occurs_in n loads.tree) (part_of ids.table))
          (both (λ n. occurs_in n loads.tree) (part_of ids.table)) (λ n. omega arith) (λ n. refl) all_moves;
    }

-- ---- where its tree begins

module _ {D A : Type 0} {m : _} where
  pub low_root : (old now : PageCache D A m) (dims most : ℕ) (items : List Item) (root : Root)
      → Loads dims most (pages old) (pages now) items root → CanBeRoot root
  low_root old now dims most items root loads = record {
    level = (let low =
        shape_bounds_level dims most loads.tree (loose dims most loads.tree loads.shape)
        loads.stands.distinct (λ n here. below n here) in omega (arith, low, loads.level));
    page = (let given = a_live_page_was_given_out now root.page live_root in
        (omega (arith, given.0, apart), below root.page at_root));
  }
    where
      live : (n : ℕ) → 0 < occurs_in n loads.tree → IsSome (pages now n)
      live n here = pages_are_there dims (pages now) loads.tree n loads.stands here

      within : (n next limit : ℕ) → n < next → next ≤ limit → n < limit
      within n next limit lt le = omega (arith, lt, le)

      below : (n : ℕ) → 0 < occurs_in n loads.tree → n < 2 ^ 31
      below n here = let given = a_live_page_was_given_out now n (live n here) in
          within n (next_of now) (2 ^ 31) given.1 given.2

      at_root : 0 < occurs_in root.page loads.tree
      at_root =
          subst (λ (n : ℕ). 0 < occurs_in n loads.tree) loads.page
          (let here = occurs_here loads.tree.page in omega (arith, here))

      live_root : IsSome (pages now root.page)
      live_root = live root.page at_root

      apart : ¬ (root.page ≡ 2)
      apart is =
          there_not_missing (pages old root.page)
          (subst (λ (n : ℕ). IsSome (pages old n)) (sym is) (the_catalog_is_live old))
          (loads.moves.came root.page refl at_root)
