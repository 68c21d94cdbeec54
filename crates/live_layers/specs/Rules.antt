-- What changes make of the trees of layers.
use Rattle.std.specs.Prelude.{ℕ, List}
use Rattle.box_math.specs.Bounds.{Bounds}
use Rattle.box_math.specs.Objects.{Object, tag_of}
use Rattle.condense.specs.Removal.{IsRemoval}
use Rattle.layer_pages.specs.Changes.{HasPacked}
use Rattle.node_page.specs.Parts.{Part}
use Rattle.plain_table.specs.Table.{Layer, object_at}
use Rattle.reinsert.specs.Insertion.{IsInsertion}
use Rattle.tree_node.specs.Trees.{Tree, object}

-- A lawful insertion of an object with its box and its tag into the tree of a layer led to another (Beckmann,
-- Kriegel, Schneider and Seeger 1990). No page of some part elsewhere came in.
abbrev pub HasGained : Layer → ℕ → Object → Tree → Tree → Type 0
HasGained layer id kept was now = (elsewhere : Part)
    × IsInsertion layer.dims layer.fanout elsewhere (object kept id) 0 was now

-- the tree of a layer is packed from these objects (our rule, docs/RULES.md), whatever it was
abbrev pub HasFilled : Layer → List (ℕ × Object) → Tree → Tree → Type 0
HasFilled layer objects was now = HasPacked layer.dims layer.fanout objects now

-- A lawful removal of an object with its box and its tag from the tree of a layer led to another (Guttman
-- 1984). No page of some part elsewhere came in.
abbrev pub HasLost : Layer → ℕ → Tree → Tree → Type 0
HasLost layer id was now = (elsewhere : Part)
    × IsRemoval layer.dims layer.fanout elsewhere id (object_at layer id) was now

-- an object of a layer has got another box, and has kept its tag: by a lawful removal, and then a lawful
-- insertion
pub record HasMoved (layer : Layer) (id : ℕ) (bounds : Bounds) (was now : Tree) : Type 0 where
  pub between : Tree
  pub removed : HasLost layer id was between
  pub inserted : HasGained layer id (bounds, tag_of (object_at layer id)) between now
