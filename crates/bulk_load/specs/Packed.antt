-- Trees packed from a list of objects, one level after the other (our rule, docs/RULES.md, "Packed load").
use Rattle.std.specs.Prelude.{◌≡◌, ℕ, suc, ◌<◌, ◌≤◌, List, [], ◌∷◌, length, map, ⊤}
use Rattle.tree_node.specs.Nodes.{Item}
use Rattle.tree_node.specs.Rows.{item_in, row_of}
use Rattle.tree_node.specs.Shape.{IsLeastBox}
use Rattle.tree_node.specs.Trees.{Branch, object, child, Tree}
use Rattle.bulk_load.specs.Tiling.{IsTiled}

-- the objects as entries of leaves
abbrev pub objects_of : List Item → List Branch
objects_of items = map (λ (item : Item). object (item.bounds, item.tag) item.reference) items

-- each run is the node of one of the parents, in order, below its least box
abbrev pub AreParents : ℕ → List (List Branch) → List Branch → Type 0
AreParents dims [] [] = ⊤
AreParents dims [] (parent ∷ rest) = ⊥
AreParents dims (run ∷ runs) [] = ⊥
AreParents dims (run ∷ runs) (object kept id ∷ rest) = ⊥
AreParents dims (run ∷ runs) (child bounds page below ∷ rest) = (below ≡ row_of run)
    × IsLeastBox dims bounds (row_of run) × AreParents dims runs rest

-- The tree that entries of a level are packed into: as many as a node has are its root, in the order in which
-- they stand; more are cut into runs, each of which is a node, and the entries of these nodes are packed on
-- the next level.
pub data Packs (dims most : ℕ) : ℕ → List Branch → Tree → Type 0 where
  root : (level page : ℕ) (entries : List Branch) → length entries ≤ most
      → Packs dims most level entries (record { page = page; level = level; row = row_of entries })
  higher : (level : ℕ) (entries : List Branch) (runs : List (List Branch)) (parents : List Branch) (t : Tree)
      → most < length entries → IsTiled item_in dims most entries runs → AreParents dims runs parents
      → Packs dims most (suc level) parents t → Packs dims most level entries t

-- the tree is packed from the objects
abbrev pub IsPacked : ℕ → ℕ → List Item → Tree → Type 0
IsPacked dims most items t = Packs dims most 0 (objects_of items) t
