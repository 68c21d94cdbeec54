-- What a check of an identifier table finds (our rule, docs/FORMAT.md, "Identifier tables").
use Rattle.std.specs.Prelude.{◌≡◌, ◌⊎◌, ℕ, ⊤, List}
use Rattle.bucket_page.specs.Layout.{Entry}
use Rattle.id_chains.specs.Checked as chains
use Rattle.id_chains.specs.Walks as walks
use Rattle.id_tree.specs.Checked as trees
use Rattle.node_page.specs.Checked.{named_pages}
use Rattle.node_page.specs.Standing.{PageMap}
use Rattle.id_table.specs.Table.{IdTable, IdsStand, entries_of, page_of, part_of}
use Rattle.id_table.specs.declared.asking.Spot.{Spot}
use Rattle.id_table.specs.declared.asking.Spot.TheVariants.{InChain, InLeaf}

-- the pages stand for a table that begins at this page, with these objects page after page, and with these
-- pages
pub record IsCheckedTable (dims : ℕ) (pages : PageMap) (page : ℕ) (pairs : List Entry)
    (list : List ℕ) : Type 0 where
  pub table : IdTable
  pub page_is : page_of table ≡ page
  pub stands : IdsStand dims pages table
  pub pairs_are : pairs ≡ entries_of table
  pub pages_are : (n : ℕ) → named_pages list n ≡ part_of table n

-- the page is the first one of the table, or a walk comes to it along a chain or down a tree
abbrev pub ComesInTable : ℕ → PageMap → ℕ → ℕ → Type 0
ComesInTable dims pages page last =
    (last ≡ page) ⊎ (chains.ComesInTable dims pages page last ⊎ trees.ComesInTree dims pages page last)

-- the page is the first one of the table, or one that a search or a change meets: along a chain, where it
-- looks at the heads of buckets alone, or down a tree
abbrev pub MeetsInTable : ℕ → PageMap → ℕ → ℕ → Type 0
MeetsInTable dims pages page last =
    (last ≡ page) ⊎ (walks.MeetsInTable dims pages page last ⊎ trees.ComesInTree dims pages page last)

-- a spot in a leaf is in one that a walk down the tree comes to, if it is in any
abbrev pub MeetsSpot : ℕ → PageMap → ℕ → Spot → Type 0
MeetsSpot dims pages page InChain = ⊤
MeetsSpot dims pages page (InLeaf at) = trees.IsMet dims pages page at.leaf
