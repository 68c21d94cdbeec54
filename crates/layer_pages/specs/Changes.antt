-- What the calls on the pages of a layer make of them (our rule, docs/FORMAT.md, "Trees of pages" and
-- "Identifier tables").
use Rattle.std.specs.Prelude.{◌≡◌, ℕ, ◌+◌, List, map}
use Rattle.box_math.specs.Objects.{Object, bounds_of, tag_of}
use Rattle.tree_node.specs.Nodes.{Item}
use Rattle.tree_node.specs.Trees.{Tree, end, object}
use Rattle.tree_node.specs.declared.node.Root.{Root}
use Rattle.node_page.specs.Parts.{Moves, Part}
use Rattle.node_page.specs.Standing.{PageMap}
use Rattle.id_table.specs.Changes.{most_added_pages, most_filled_pages}
use Rattle.id_table.specs.Table.{IdTable, IdsStand, kind_of, objects_of, page_of, part_of}
use Rattle.id_table.specs.declared.kind.TableKind.{TableKind}
use Rattle.reinsert.specs.Inserted.{most_new_pages}
use Rattle.reinsert.specs.Insertion.{IsInsertion}
use Rattle.condense.specs.Removal.{IsRemoval}
use Rattle.condense.specs.Removed.{most_removal_pages}
use Rattle.bulk_load.specs.Packed.{IsPacked}
use Rattle.layer_pages.specs.Layers.{IsLayerAt, LayerPages, Objects, part_of_layer}

-- A part of the pages became those of a layer with these objects, with root and table there, whose table is of
-- this kind and whose tree is so. All other pages stay, and those that came in were not live.
pub record BecomesLayer (dims most : ℕ) (old new : PageMap) (was : Part) (kind : TableKind) (root : Root)
    (ids_root : ℕ) (objects : Objects) (IsSo : Tree → Type 0) : Type 0 where
  pub layer : LayerPages
  pub kind_is : kind_of layer.ids ≡ kind
  pub stands : IsLayerAt dims most new root ids_root layer objects
  pub tree_is : IsSo layer.tree
  pub moves : Moves old new was (part_of_layer layer)

-- an empty leaf
pub record IsEmptyLeaf (t : Tree) : Type 0 where
  pub level : t.level ≡ 0
  pub row : t.row ≡ end

-- the tree of a layer after a lawful insertion of an object, with no page of the layer's table
abbrev pub HasInserted : ℕ → ℕ → LayerPages → ℕ → Object → Tree → Type 0
HasInserted dims most l id kept t = IsInsertion dims most (part_of l.ids) (object kept id) 0 l.tree t

-- the tree of a layer after a lawful removal of an object, with no page of the layer's table
abbrev pub HasRemoved : ℕ → ℕ → LayerPages → ℕ → Object → Tree → Type 0
HasRemoved dims most l id kept t = IsRemoval dims most (part_of l.ids) id kept l.tree t

-- the tree of a layer after an object has got another box: by a lawful removal, and then a lawful insertion
pub record HasReplaced (dims most : ℕ) (l : LayerPages) (id : ℕ) (old new : Object) (t : Tree) : Type 0 where
  pub between : Tree
  pub removed : HasRemoved dims most l id old between
  pub inserted : HasInserted dims most (record { tree = between; ids = l.ids }) id new t

-- an object as an entry of a leaf
abbrev pub item_of_object : ℕ × Object → Item
item_of_object o = record { bounds = bounds_of o.1; reference = o.0; tag = tag_of o.1 }

-- a tree packed from these objects
abbrev pub HasPacked : ℕ → ℕ → List (ℕ × Object) → Tree → Type 0
HasPacked dims most objects t = IsPacked dims most (map item_of_object objects) t

-- A part of the pages became those of an identifier table of this kind and of these objects.
pub record BecomesTable (dims : ℕ) (old new : PageMap) (was : Part) (kind : TableKind) (ids_root : ℕ)
    (objects : Objects) : Type 0 where
  pub table : IdTable
  pub kind_is : kind_of table ≡ kind
  pub page_is : page_of table ≡ ids_root
  pub stands : IdsStand dims new table
  pub objects_are : objects_of table ≡ objects
  pub moves : Moves old new was (part_of table)

-- ---- by how many pages the live ones grow at most

-- an object inserted: its tree grows, and its table
abbrev pub most_inserted_pages : ℕ
most_inserted_pages = most_new_pages + most_added_pages

-- an object replaced: its tree grows by a removal and by an insertion
abbrev pub most_replaced_pages : ℕ
most_replaced_pages = most_removal_pages + most_new_pages

-- so many objects loaded, into a table and into a packed tree beside it
abbrev pub most_loaded_pages : ℕ → ℕ
most_loaded_pages count = count + 1 + most_filled_pages count
