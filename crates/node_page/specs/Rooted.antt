-- The trees that searches speak of (our rule, docs/FORMAT.md, "Trees of pages").
use Rattle.std.specs.Prelude.{◌≡◌, ℕ}
use Rattle.tree_node.specs.Shape.{HasShape}
use Rattle.tree_node.specs.Trees.{Tree}
use Rattle.tree_node.specs.declared.node.Root.{Root}
use Rattle.node_page.specs.Standing.{PageMap, Stands}

-- the pages stand for the tree, whose root is at that page and level, and it has the shape of an R-tree whose
-- nodes have at most so many entries
pub record IsTreeAt (dims most : ℕ) (pages : PageMap) (root : Root) (t : Tree) : Type 0 where
  pub page_is : t.page ≡ root.page
  pub level_is : t.level ≡ root.level
  pub stands : Stands dims pages t
  pub shape : HasShape dims most t
