-- What a check of the pages of a layer finds (our rule, docs/FORMAT.md, "Trees of pages" and "Identifier
-- tables").
use Rattle.std.specs.Prelude.{◌≡◌, ◌⊎◌, ℕ, List, ◌++◌, ◌==◌, All, IsPermutation, if◌then◌else◌, length}
use Rattle.std.specs.FinMap.{len}
use Rattle.box_math.specs.Bounds.{IsBox}
use Rattle.box_math.specs.Objects.{bounds_of}
use Rattle.bucket_page.specs.Layout.{Entry}
use Rattle.tree_node.specs.declared.node.Root.{Root}
use Rattle.id_table.specs.Checked.{ComesInTable}
use Rattle.node_page.specs.Checked.{ComesTo, named_pages}
use Rattle.node_page.specs.Standing.{PageMap}
use Rattle.layer_pages.specs.Layers.{IsLayerAt, LayerPages, Objects, part_of_layer}

-- the pages stand for a layer with its root and its identifier table there, of so many objects, and the list
-- has its pages
pub record IsCheckedLayer (dims most : ℕ) (pages : PageMap) (root : Root) (ids_root count : ℕ)
    (list : List ℕ)
    : Type 0 where
  pub layer : LayerPages
  pub objects : Objects
  pub stands : IsLayerAt dims most pages root ids_root layer objects
  pub count_is : len objects ≡ count
  pub pages_are : (n : ℕ) → named_pages list n ≡ part_of_layer layer n

-- A walk through a layer comes to the page: down the nodes of its tree, or along a chain of its table; or it is
-- the catalog, which says how many objects the layer has.
abbrev pub ComesInLayer : ℕ → PageMap → Root → ℕ → ℕ → Type 0
ComesInLayer dims pages root ids_root last =
    (last ≡ 2) ⊎ (ComesTo dims pages root.page last ⊎ ComesInTable dims pages ids_root last)

-- the page of a tree of these objects and a table that are no layer of so many: that of the catalog, and
-- where the tree has so many, that of the identifier table
abbrev pub odd_page : ℕ → ℕ → List Entry → ℕ
odd_page ids_root count held = if length held == count then ids_root else 2

-- ---- its steps

-- a tree and a table have the same objects, so many, with boxes, and the list has the pages of both
pub record AreOfOneLayer (dims count : ℕ) (held listed : List Entry) (held_pages listed_pages list : List ℕ)
    : Type 0 where
  pub same : IsPermutation held listed
  pub boxes : All (λ object. IsBox dims (bounds_of object.1)) held
  pub many : length held ≡ count
  pub pages_are : list ≡ held_pages ++ listed_pages
