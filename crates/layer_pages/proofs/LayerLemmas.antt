-- Layers beside a change of pages, and changes of the parts of a layer in turn.
use Rattle.std.proofs.Common.{◌≡◌, ◌∙◌, ℕ, ◌<◌, ◌≤◌, IsSome, ⊎_elim, arith}
use Rattle.std.specs.FinMap.{entries}
use Rattle.std.specs.Prelude.{IsPermutation}
use Rattle.tree_node.specs.Boxes.{RowHasBoxes}
use Rattle.tree_node.specs.Shape.{HasShape}
use Rattle.tree_node.specs.Trees.{Tree, objects_in, occurs_in}
use Rattle.tree_node.specs.declared.node.Root.{Root}
use Rattle.node_page.specs.Parts.{Moves, Part, both, no_page}
use Rattle.node_page.specs.Standing.{PageMap, Stands}
use Rattle.node_page.proofs.ChangeLemmas.{trees_beside_stand}
use Rattle.node_page.proofs.PartLemmas.{moves_beside, moves_in_turn, moves_same, none_or_some, staying_moves}
use Rattle.node_page.proofs.StandingLemmas.{pages_are_there}
use Rattle.id_table.specs.Table.{IdTable, IdsStand, kind_of, objects_of, page_of, part_of}
use Rattle.id_table.proofs.TableLemmas.{ids_beside, ids_there}
use Rattle.reinsert.specs.Inserted.{IsRootOf}
use Rattle.layer_pages.specs.Changes.{BecomesLayer}
use Rattle.layer_pages.specs.Laws.{LayersBesideStand, LayersStandInEqualPages, PagesOfALayerAreThere}
use Rattle.layer_pages.specs.Layers.{IsLayerAt, LayerPages, Objects, part_of_layer}

-- ---- layers

pub pages_of_a_layer : PagesOfALayerAreThere
pages_of_a_layer dims most pages root ids_root l objects is n here = ⊎_elim
    (λ (none : occurs_in n l.tree ≡ 0). ids_there dims pages l.ids n is.ids (omega (arith, none, here)))
    (λ (some : 0 < occurs_in n l.tree). pages_are_there dims pages l.tree n is.tree.stands some)
    (none_or_some (occurs_in n l.tree))

pub layers_beside : LayersBesideStand
layers_beside dims most old new was now root ids_root l objects moves is apart =
    let tree =
    trees_beside_stand dims old new was now l.tree moves is.tree.stands
    (λ n here. apart n (omega (arith, here))) in
    let ids = ids_beside dims old new was now l.ids moves is.ids (λ n here. apart n (omega (arith, here))) in (
      record {
        tree = record {
          page_is = is.tree.page_is;
          level_is = is.tree.level_is;
          stands = tree.0;
          shape = is.tree.shape;
        };
        boxes = is.boxes;
        ids_root_is = is.ids_root_is;
        ids = ids.0;
        leaves = is.leaves;
        table = is.table;
        once = is.once;
      },
      λ n here. ⊎_elim
          (λ (none : occurs_in n l.tree ≡ 0). ids.1 n (omega (arith, none, here)))
          (λ (some : 0 < occurs_in n l.tree). tree.1 n some)
          (none_or_some (occurs_in n l.tree)),
    )

pub layers_in_equal_pages : LayersStandInEqualPages
layers_in_equal_pages dims most old new root ids_root l objects same is =
    (layers_beside dims most old new no_page no_page root ids_root l objects
    (staying_moves old new no_page same (λ n. omega arith) (λ n here. absurd (omega (arith, here)))) is
    (λ n here. omega arith)).0

-- ---- two changes in turn, each of a part of its own

module _ (old mid new : PageMap) (was now a b : Part) (first : Moves old mid was now)
    (second : Moves mid new a b) (live : (n : ℕ) → 0 < a n → IsSome (old n))
    (apart : (n : ℕ) → both was a n ≤ 1) where
  first_beside : Moves old mid (both was a) (both now a)
  first_beside = moves_beside old mid was now a first live apart

  second_beside : Moves mid new (both now a) (both now b)
  second_beside =
      moves_same mid new (both a now) (both now a) (both b now) (both now b) (λ n. omega arith)
      (λ n. omega arith)
      (moves_beside mid new a b now second first.live (λ n. omega (arith, first_beside.once n)))

  pub both_change : Moves old new (both was a) (both now b)
  both_change = moves_in_turn old mid new (both was a) (both now a) (both now b) first_beside second_beside

  -- what the first made shares no page with what the second changes
  pub made_apart : (n : ℕ) → 0 < now n → a n ≡ 0
  made_apart n here = omega (arith, here, first_beside.once n)

-- ---- the tree of a layer is changed, and then its table

module _ (dims most : ℕ) (old : PageMap) (root : Root) (ids_root : ℕ) (l : LayerPages) (objects : Objects)
    (is : IsLayerAt dims most old root ids_root l objects) where
  pub root_of : IsRootOf root l.tree
  root_of = record { page = is.tree.page_is; level = is.tree.level_is }

  pub ids_live : (n : ℕ) → 0 < part_of l.ids n → IsSome (old n)
  ids_live n here = ids_there dims old l.ids n is.ids here

  module _ (mid : PageMap) (now : Part) (tree : Moves old mid (λ n. occurs_in n l.tree) now) where
    -- the table stands as it did
    pub ids_still : IdsStand dims mid l.ids
    ids_still =
        (ids_beside dims old mid (λ n. occurs_in n l.tree) now l.ids tree is.ids
        (λ n here. omega (arith, here, is.once n))).0

    pub layer_moves : (new : PageMap) (ids : Part) → Moves mid new (part_of l.ids) ids
        → Moves old new (part_of_layer l) (both now ids)
    layer_moves new ids table =
        both_change old mid new (λ n. occurs_in n l.tree) now (part_of l.ids) ids tree table ids_live is.once

  -- a tree of the shape and a table of the same objects are the layer then
  module _ (mid new : PageMap) (t : Tree) (ids : IdTable)
      (tree : Moves old mid (λ n. occurs_in n l.tree) (λ n. occurs_in n t))
      (table : Moves mid new (part_of l.ids) (part_of ids)) where
    pub layer_changed : (after : Root) (all : Objects) (IsSo : Tree → Type 0) → IsRootOf after t
        → Stands dims mid t → HasShape dims most t → RowHasBoxes dims t.row → kind_of ids ≡ kind_of l.ids
        → page_of ids ≡ page_of l.ids → IdsStand dims new ids → objects_of ids ≡ all
        → IsPermutation (objects_in t.row) (entries all) → IsSo t
        → BecomesLayer dims most old new (part_of_layer l) (kind_of l.ids) after ids_root all IsSo
    layer_changed after all IsSo at stands shape boxes kind page ids_stand objects_are leaves is_so = record {
      layer = record { tree = t; ids = ids };
      kind_is = kind;
      stands = record {
        tree = record {
          page_is = at.page;
          level_is = at.level;
          stands =
              (trees_beside_stand dims mid new (part_of l.ids) (part_of ids) t table stands
              (made_apart old mid new (λ n. occurs_in n l.tree) (λ n. occurs_in n t) (part_of l.ids)
              (part_of ids) tree table ids_live is.once)).0;
          shape = shape;
        };
        boxes = boxes;
        ids_root_is = page ∙ is.ids_root_is;
        ids = ids_stand;
        leaves = leaves;
        table = objects_are;
        once = (layer_moves mid (λ n. occurs_in n t) tree new (part_of ids) table).once;
      };
      tree_is = is_so;
      moves = layer_moves mid (λ n. occurs_in n t) tree new (part_of ids) table;
    }
