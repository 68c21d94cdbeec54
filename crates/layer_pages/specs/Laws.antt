-- Laws of the pages of a layer: what stands beside a change, and what searches of the tree answer.
use Rattle.std.specs.Prelude.{◌≡◌, ℕ, ◌<◌, Bool, List, Option, ℤ, All, IsSome, IsPermutation}
use Rattle.std.specs.FinMap as map
use Rattle.std.specs.FinMap.{entries}
use Rattle.box_math.specs.Bounds.{Bounds, IsBox}
use Rattle.box_math.specs.Objects.{Object, bounds_of}
use Rattle.tree_node.specs.Boxes.{RowHasBoxes}
use Rattle.tree_node.specs.Shape.{HasShape}
use Rattle.tree_node.specs.Trees.{Tree, objects_in}
use Rattle.tree_node.specs.declared.node.Root.{Root}
use Rattle.node_page.specs.Parts.{Moves, Part}
use Rattle.node_page.specs.Standing.{PageMap}
use Rattle.id_words.specs.Objects.{AreNew, with_all}
use Rattle.range_query.specs.Queries.{IsRangeAnswer}
use Rattle.nearest.specs.Nearest.{nearest_rows}
use Rattle.layer_pages.specs.Layers.{IsLayerAt, LayerPages, Objects, part_of_layer}
use Rattle.layer_pages.specs.Questions.{nearest_objects, objects_that}

-- ---- pages

-- each page of a layer that stands is live
abbrev pub PagesOfALayerAreThere : Type 0
PagesOfALayerAreThere =
    (dims most : ℕ) (pages : PageMap) (root : Root) (ids_root : ℕ) (l : LayerPages) (objects : Objects)
    → IsLayerAt dims most pages root ids_root l objects → (n : ℕ) → 0 < part_of_layer l n → IsSome (pages n)

-- a layer that stands beside the pages of a change stands after it, and shares no page with them
abbrev pub LayersBesideStand : Type 0
LayersBesideStand =
    (dims most : ℕ) (old new : PageMap) (was now : Part) (root : Root) (ids_root : ℕ) (l : LayerPages)
    (objects : Objects) → Moves old new was now → IsLayerAt dims most old root ids_root l objects
    → ((n : ℕ) → 0 < part_of_layer l n → was n ≡ 0)
    → IsLayerAt dims most new root ids_root l objects × ((n : ℕ) → 0 < part_of_layer l n → now n ≡ 0)

-- it stands in equal pages
abbrev pub LayersStandInEqualPages : Type 0
LayersStandInEqualPages =
    (dims most : ℕ) (old new : PageMap) (root : Root) (ids_root : ℕ) (l : LayerPages) (objects : Objects)
    → ((n : ℕ) → new n ≡ old n) → IsLayerAt dims most old root ids_root l objects
    → IsLayerAt dims most new root ids_root l objects

-- the boxes of a tree are boxes where those of its objects are, since each box above them is a least box
abbrev pub ObjectsGiveBoxes : Type 0
ObjectsGiveBoxes =
    (dims most : ℕ) (t : Tree) → HasShape dims most t
    → All (λ (o : ℕ × Object). IsBox dims (bounds_of o.1)) (objects_in t.row)
    → RowHasBoxes dims t.row

-- ---- objects

-- objects whose identifiers are all different are the entries of the map that they make
abbrev pub NewObjectsAreEntries : Type 0
NewObjectsAreEntries =
    (objects : List (ℕ × Object)) → AreNew map.empty objects
    → IsPermutation objects (entries (with_all map.empty objects))

-- ---- answers

-- a range query of the tree answers the objects of the layer that pass, of those with the tag that is asked
-- for, if one is
abbrev pub RangesAnswerObjects : Type 0
RangesAnswerObjects =
    (dims most : ℕ) (pages : PageMap) (root : Root) (ids_root : ℕ) (l : LayerPages) (objects : Objects)
    (test : Bounds → Bool) (asked : Option ℕ) (rows : List (ℕ × Object))
    → IsLayerAt dims most pages root ids_root l objects → IsRangeAnswer test asked l.tree rows
    → rows ≡ objects_that test asked objects

-- a search for the nearest answers the nearest objects of the layer
abbrev pub NearestAreObjects : Type 0
NearestAreObjects =
    (dims most : ℕ) (pages : PageMap) (root : Root) (ids_root : ℕ) (l : LayerPages) (objects : Objects)
    (k : ℕ)
    (point : List ℤ) → IsLayerAt dims most pages root ids_root l objects
    → nearest_rows dims k point l.tree ≡ nearest_objects dims k point objects
