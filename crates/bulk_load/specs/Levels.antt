-- The levels of a packed tree while it is written, as the code sees them: what waits for nodes of a level
-- (our rule, docs/RULES.md, "Packed load").
use Rattle.std.specs.Prelude.{◌≡◌, ℕ, suc, ◌≤◌, List, All, map}
use Rattle.tree_node.specs.Boxes.{RowHasBoxes}
use Rattle.tree_node.specs.Nodes.{Item}
use Rattle.tree_node.specs.Rows.{item_in, row_of}
use Rattle.tree_node.specs.Trees.{Branch, Tree, occurs, occurs_in}
use Rattle.tree_node.specs.declared.node.Root.{Root}
use Rattle.node_page.specs.Parts.{Moves, Part}
use Rattle.node_page.specs.Standing.{PageMap, RowStands, Stands}
use Rattle.bulk_load.specs.Packed.{AreParents, Packs}
use Rattle.bulk_load.specs.Tiling.{IsTiled, joined}

-- the pages below some entries
abbrev pub pages_below : List Branch → Part
pages_below bs n = occurs n (row_of bs)

-- entries that stand in the pages as those of a node of a level do, seen as these items
pub record WaitFor (dims level : ℕ) (pages : PageMap) (items : List Item) (bs : List Branch) : Type 0 where
  pub are : map item_in bs ≡ items
  pub stand : RowStands dims pages level (row_of bs)
  pub boxes : RowHasBoxes dims (row_of bs)
  pub once : (n : ℕ) → pages_below bs n ≤ 1

-- each run became a node of a level, and their parents, seen as these items, wait for nodes of the next
pub record LevelWritten (dims level : ℕ) (was now : PageMap) (runs : List (List Branch))
    (items : List Item) : Type 0 where
  pub parents : List Branch
  pub made : AreParents dims runs parents
  pub wait : WaitFor dims (suc level) now items parents
  pub moves : Moves was now (pages_below (joined runs)) (pages_below parents)

-- the entries of a level were cut into runs, each of which became a node
pub record LevelPacked (dims most level : ℕ) (was now : PageMap) (bs : List Branch)
    (items : List Item) : Type 0 where
  pub runs : List (List Branch)
  pub tiled : IsTiled item_in dims most bs runs
  pub parents : List Branch
  pub made : AreParents dims runs parents
  pub wait : WaitFor dims (suc level) now items parents
  pub moves : Moves was now (pages_below bs) (pages_below parents)

-- the entries of a level became a packed tree, whose root is this
pub record PackedAt (dims most level : ℕ) (was now : PageMap) (bs : List Branch) (root : Root) : Type 0 where
  pub tree : Tree
  pub page : tree.page ≡ root.page
  pub level_is : tree.level ≡ root.level
  pub packs : Packs dims most level bs tree
  pub stands : Stands dims now tree
  pub moves : Moves was now (pages_below bs) (λ n. occurs_in n tree)

-- sizes of runs: each has an entry, and as many as a page takes at most
abbrev pub AreSizes : List ℕ → Type 0
AreSizes sizes = All (λ size. (1 ≤ size) × (size ≤ 100)) sizes
