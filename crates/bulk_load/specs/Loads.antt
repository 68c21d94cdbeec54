-- What a load leaves in the pages (our rule, docs/RULES.md, "Packed load").
use Rattle.std.specs.Prelude.{◌≡◌, ℕ, List, IsPermutation}
use Rattle.tree_node.specs.Nodes.{Item}
use Rattle.tree_node.specs.Shape.{HasShape}
use Rattle.tree_node.specs.Trees.{Tree, objects_in, occurs_in}
use Rattle.tree_node.specs.declared.node.Root.{Root}
use Rattle.node_page.specs.Checked.{pairs_of}
use Rattle.node_page.specs.Parts.{Moves, no_page}
use Rattle.node_page.specs.Standing.{PageMap, Stands}
use Rattle.bulk_load.specs.Packed.{IsPacked}

-- a new tree packed from the objects stands at the root, in pages that were not live before; all others are
-- as they were
pub record Loads (dims most : ℕ) (was now : PageMap) (items : List Item) (root : Root) : Type 0 where
  pub tree : Tree
  pub page : tree.page ≡ root.page
  pub level : tree.level ≡ root.level
  pub packed : IsPacked dims most items tree
  pub stands : Stands dims now tree
  pub shape : HasShape dims most tree
  pub objects : IsPermutation (pairs_of items) (objects_in tree.row)
  pub moves : Moves was now no_page (λ n. occurs_in n tree)
