-- The pairs of given rows and the objects of a tree, and how many nodes are looked at for them (our rule,
-- docs/FORMAT.md, "Trees of pages").
use Rattle.std.specs.Prelude.{◌≡◌, ℕ, zero, suc, ◌+◌, ◌/◌, List, map, take, drop, length, IsPermutation}
use Rattle.std.specs.List.Sorted.{IsSorted}
use Rattle.box_math.specs.Measures.{near_test}
use Rattle.box_math.specs.Objects.{Object, bounds_of, tag_of}
use Rattle.tree_node.specs.Boxes.{least_box}
use Rattle.tree_node.specs.Nodes.{Item}
use Rattle.tree_node.specs.Searches.{admitted}
use Rattle.tree_node.specs.Positions.{total}
use Rattle.tree_node.specs.Trees.{Row, Tree, objects_in}
use Rattle.spatial_join.specs.Pairs.{near_objects, pair_cmp}

-- all pairs of one of the rows and an object of the tree whose boxes are that near, each as often as both have
-- it, in order
pub record IsRowsAnswer (dims limit : ℕ) (rows : List (ℕ × Object)) (t : Tree) (pairs : List (ℕ × ℕ)) : Type 0 where
  pub all : IsPermutation (near_objects dims limit rows (objects_in t.row)) pairs
  pub order : IsSorted pair_cmp pairs

-- an object as the entry of a leaf
abbrev pub entry_of : ℕ × Object → Item
entry_of row = record { bounds = bounds_of row.1; reference = row.0; tag = tag_of row.1 }

-- the nodes that are looked at beside so many rows: the root, and each other whose box is that near to the
-- least box of them all
abbrev pub looks_of_group : ℕ → ℕ → Tree → List (ℕ × Object) → ℕ
looks_of_group dims limit t rows = admitted (near_test dims limit (least_box dims (map entry_of rows))) t

-- those beside so many groups of 64 rows in turn
abbrev pub looks_of_groups : ℕ → ℕ → Tree → ℕ → List (ℕ × Object) → ℕ
looks_of_groups dims limit t zero rows = 0
looks_of_groups dims limit t (suc groups) rows =
    looks_of_group dims limit t (take 64 rows) + looks_of_groups dims limit t groups (drop 64 rows)

-- and beside all of them
abbrev pub looks_beside : ℕ → ℕ → List (ℕ × Object) → Tree → ℕ
looks_beside dims limit rows t = looks_of_groups dims limit t ((length rows + 63) / 64) rows

-- the pairs of the rows and the objects below a node are added: each sum over the pairs rises by that over
-- theirs
abbrev pub GainsRows : ℕ → ℕ → List (ℕ × Object) → Row → List (ℕ × ℕ) → List (ℕ × ℕ) → Type 0
GainsRows dims limit rows row old now = (f : ℕ × ℕ → ℕ)
    → total f now ≡ total f old + total f (near_objects dims limit rows (objects_in row))
