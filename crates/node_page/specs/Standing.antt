-- The pages that trees stand in (our rule, docs/FORMAT.md, "Trees of pages").
use Rattle.std.specs.Prelude.{◌≡◌, ℕ, ◌-◌, ◌<◌, ◌≤◌, List, Option, Some, None, IsSomeAnd, ⊤}
use Rattle.tree_node.specs.Nodes.{NodeContent}
use Rattle.tree_node.specs.Trees.{Row, end, more, object, child, Tree, occurs_in, row_items}
use Rattle.node_bytes.specs.Layout.{IsPageOfNode, IsTidy, node_at}

-- the bytes of each page that is there
abbrev pub PageMap : Type 0
PageMap = ℕ → Option (List ℕ)

-- the node that a page spells, if it is there and spells one
abbrev pub node_in : ℕ → Option (List ℕ) → Option NodeContent
node_in dims None = None
node_in dims (Some page) = node_at dims page

-- the page of this number is there, and tidy
abbrev pub IsTidyAt : ℕ → PageMap → ℕ → Type 0
IsTidyAt dims pages n = IsSomeAnd (pages n) (IsTidy dims)

-- it is there, and the one that is written of the node
abbrev pub HasPageOf : ℕ → PageMap → ℕ → NodeContent → Type 0
HasPageOf dims pages n c = IsSomeAnd (pages n) (λ page. IsPageOfNode dims page c)

-- a page spells the node of this level with these entries
abbrev pub HasNode : ℕ → PageMap → ℕ → ℕ → Row → Type 0
HasNode dims pages page level row =
    node_in dims (pages page) ≡ Some (record { level = level; entries = row_items row })

-- the trees below a node of this level stand in the pages: its entries are objects on level 0, and children
-- above it
abbrev pub RowStands : ℕ → PageMap → ℕ → Row → Type 0
RowStands dims pages level end = ⊤
RowStands dims pages level (more (object kept id) rest) = (level ≡ 0) × RowStands dims pages level rest
RowStands dims pages level (more (child bounds page below) rest) =
    (0 < level) × HasNode dims pages page (level - 1) below × RowStands dims pages (level - 1) below
    × RowStands dims pages level rest

-- a node with the entries stands at the page, and the trees below it
pub record StandsAt (dims : ℕ) (pages : PageMap) (page level : ℕ) (row : Row) : Type 0 where
  pub node : HasNode dims pages page level row
  pub below : RowStands dims pages level row

-- the pages stand for the tree: each node is spelled at its page, and no page is in it twice
pub record Stands (dims : ℕ) (pages : PageMap) (t : Tree) : Type 0 where
  pub root : HasNode dims pages t.page t.level t.row
  pub below : RowStands dims pages t.level t.row
  pub distinct : (n : ℕ) → occurs_in n t ≤ 1
