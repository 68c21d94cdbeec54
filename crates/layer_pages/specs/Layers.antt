-- The pages of a layer: a tree, and an identifier table of the same objects (our rule, docs/FORMAT.md, "Trees
-- of pages" and "Identifier tables").
use Rattle.std.specs.Prelude.{◌≡◌, ℕ, ◌+◌, ◌^◌, ◌<◌, ◌≤◌, IsPermutation, Some}
use Rattle.std.specs.FinMap.{FinMap, entries, get}
use Rattle.std.specs.Ordering.{nat_cmp}
use Rattle.box_math.specs.Objects.{Object}
use Rattle.tree_node.specs.Boxes.{RowHasBoxes}
use Rattle.tree_node.specs.Trees.{Tree, objects_in, occurs_in}
use Rattle.tree_node.specs.declared.node.Root.{Root}
use Rattle.node_page.specs.Parts.{Part}
use Rattle.node_page.specs.Rooted.{IsTreeAt}
use Rattle.node_page.specs.Standing.{PageMap}
use Rattle.id_table.specs.Table.{IdTable, IdsStand, IsSpotAt, objects_of, occurs_in_ids, page_of}
use Rattle.layer_pages.specs.declared.layer.ObjectAt.{ObjectAt}

-- the tree and the identifier table of a layer
pub record LayerPages : Type 0 where
  pub tree : Tree
  pub ids : IdTable

-- what is kept of each object, by its identifier
abbrev pub Objects : Type 0
Objects = FinMap nat_cmp Object

-- the part of the pages that a layer has
abbrev pub part_of_layer : LayerPages → Part
part_of_layer l n = occurs_in n l.tree + occurs_in_ids n l.ids

-- where a tree that may grow begins: no higher than level 40, in a page that a node can refer to
pub record CanBeRoot (root : Root) : Type 0 where
  pub level : root.level ≤ 40
  pub page : (3 ≤ root.page) × (root.page < 2 ^ 31)

-- The pages stand for the layer, whose tree is at that root, with nodes of at most so many entries, and whose
-- table begins at that page. Both hold just these objects, and no page is in the layer twice.
pub record IsLayerAt (dims most : ℕ) (pages : PageMap) (root : Root) (ids_root : ℕ) (l : LayerPages)
    (objects : Objects) : Type 0 where
  pub tree : IsTreeAt dims most pages root l.tree
  pub boxes : RowHasBoxes dims l.tree.row
  pub ids_root_is : page_of l.ids ≡ ids_root
  pub ids : IdsStand dims pages l.ids
  pub leaves : IsPermutation (objects_in l.tree.row) (entries objects)
  pub table : objects_of l.ids ≡ objects
  pub once : (n : ℕ) → part_of_layer l n ≤ 1

-- ---- an object, and where its identifier is

-- its identifier, and what is kept of it
abbrev pub id_of : {dims : ℕ} → ObjectAt dims → ℕ
id_of object = object.entry.reference

abbrev pub kept_of : {dims : ℕ} → ObjectAt dims → Object
kept_of object = (object.entry.bounds, object.entry.tag)

-- the objects have this one
abbrev pub HasObject : {dims : ℕ} → Objects → ObjectAt dims → Type 0
HasObject objects object = get objects (id_of object) ≡ Some (kept_of object)

-- in the table that begins at this page its identifier is at its spot, or would come there
abbrev pub IsAtSpot : {dims : ℕ} → PageMap → ℕ → ObjectAt dims → Type 0
IsAtSpot {dims} pages ids_root object = IsSpotAt dims pages ids_root (id_of object) object.spot
