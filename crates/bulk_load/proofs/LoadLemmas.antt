-- A load of objects: what waits at first, and what stands at last.
use Rattle.std.proofs.Common.{◌≡◌, ℕ, suc, ◌<◌, ◌≤◌, List, [], ◌∷◌, length, map, Result, Ok, Err, refl, ap}
use Rattle.std.proofs.Common.{arith}
use Rattle.std.specs.Prelude.{IfOk}
use Rattle.box_math.specs.Bounds.{IsBox, IsDims}
use Rattle.tree_node.specs.Boxes.{RowHasBoxes, box_at}
use Rattle.tree_node.specs.Nodes.{Item}
use Rattle.tree_node.specs.Rows.{item_in, row_of}
use Rattle.tree_node.specs.Trees.{occurs_in}
use Rattle.tree_node.specs.declared.node.Root.{Root}
use Rattle.node_page.specs.Parts.{no_page}
use Rattle.node_page.specs.Standing.{PageMap, RowStands}
use Rattle.page_file.specs.declared.fault.Fault.{Fault}
use Rattle.node_page.proofs.PartLemmas.{moves_same}
use Rattle.bulk_load.specs.Levels.{PackedAt, WaitFor, pages_below}
use Rattle.bulk_load.specs.Loads.{Loads}
use Rattle.bulk_load.specs.Packed.{objects_of}
use Rattle.bulk_load.proofs.PackedLemmas.{packed_has_shape, packed_holds_objects}

seen_again : (items : List Item) → map item_in (objects_of items) ≡ items
seen_again [] = refl
seen_again (item ∷ items) = ap (λ (is : List Item). item ∷ is) (seen_again items)

objects_stand : (dims : ℕ) (pages : PageMap) (items : List Item)
    → RowStands dims pages 0 (row_of (objects_of items))
objects_stand dims pages [] = tt
objects_stand dims pages (item ∷ items) = (refl, objects_stand dims pages items)

objects_have_boxes : (dims : ℕ) (items : List Item)
    → ((i : ℕ) → i < length items → IsBox dims (box_at items i))
    → RowHasBoxes dims (row_of (objects_of items))
objects_have_boxes dims [] boxes = tt
objects_have_boxes dims (item ∷ items) boxes =
    (boxes 0 (omega arith), objects_have_boxes dims items (λ i below. boxes (suc i) (omega (arith, below))))

no_pages : (items : List Item) (n : ℕ) → pages_below (objects_of items) n ≡ 0
no_pages [] n = refl
no_pages (item ∷ items) n = no_pages items n

pub objects_wait : (dims : ℕ) (pages : PageMap) (items : List Item)
    → ((i : ℕ) → i < length items → IsBox dims (box_at items i))
    → WaitFor dims 0 pages items (objects_of items)
objects_wait dims pages items boxes = record {
  are = seen_again items;
  stand = objects_stand dims pages items;
  boxes = objects_have_boxes dims items boxes;
  once = λ n. omega (arith, no_pages items n);
}

loaded : (dims most : ℕ) (was now : PageMap) (items : List Item) (r : Root) → IsDims dims → 4 ≤ most
    → PackedAt dims most 0 was now (objects_of items) r → Loads dims most was now items r
loaded dims most was now items r is four p = record {
  tree = p.tree;
  page = p.page;
  level = p.level_is;
  packed = p.packs;
  stands = p.stands;
  shape = packed_has_shape dims most items p.tree is four p.packs;
  objects = packed_holds_objects dims most items p.tree p.packs;
  moves = moves_same was now (pages_below (objects_of items)) no_page (λ n. occurs_in n p.tree)
      (λ n. occurs_in n p.tree) (λ n. no_pages items n) (λ n. refl) p.moves;
}

pub all_loaded : (dims most : ℕ) (was now : PageMap) (items : List Item) (result : Result Root Fault)
    → IsDims dims → 4 ≤ most
    → IfOk result (λ r. PackedAt dims most 0 was now (objects_of items) r)
    → IfOk result (λ r. Loads dims most was now items r)
all_loaded dims most was now items (Ok r) is four p = loaded dims most was now items r is four p
all_loaded dims most was now items (Err b) is four p = tt
