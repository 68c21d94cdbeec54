-- What a check of a tree finds (our rule, docs/FORMAT.md, "Trees of pages").
use Rattle.std.specs.Prelude.{◌≡◌, ℕ, ◌+◌, ◌<◌, List, [], ◌∷◌, ◌++◌, length, map, Contains, Some}
use Rattle.box_math.specs.Objects.{Object}
use Rattle.node_page.specs.Visits.{times_in}
use Rattle.tree_node.specs.Nodes.{Item, NodeContent, references_of}
use Rattle.tree_node.specs.Shape.{HasShape, RowHasShape}
use Rattle.tree_node.specs.Trees.{Row, Tree, objects_in, occurs, occurs_in, row_items}
use Rattle.node_page.specs.Parts.{Part}
use Rattle.node_page.specs.Standing.{PageMap, RowStands, Stands, node_in}

-- how often a list has each page
abbrev pub named_pages : List ℕ → Part
named_pages list n = times_in n list

-- a tree of the shape stands at the page, with these objects from left to right, and with these pages
pub record IsCheckedTree (dims most : ℕ) (pages : PageMap) (page level : ℕ) (pairs : List (ℕ × Object))
    (list : List ℕ) : Type 0 where
  pub tree : Tree
  pub page_is : tree.page ≡ page
  pub level_is : tree.level ≡ level
  pub stands : Stands dims pages tree
  pub shape : HasShape dims most tree
  pub pairs_are : pairs ≡ objects_in tree.row
  pub pages_are : (n : ℕ) → named_pages list n ≡ occurs_in n tree

-- the objects of a leaf with these entries
abbrev pub pairs_of : List Item → List (ℕ × Object)
pairs_of items = map (λ item. (item.reference, (item.bounds, item.tag))) items

-- the trees below a node stand, and their nodes have the shape: their objects and pages were appended to
-- those before
pub record AddsTree (dims most : ℕ) (pages : PageMap) (c : NodeContent)
    (pairs_before pairs : List (ℕ × Object))
    (list_before list : List ℕ) : Type 0 where
  pub row : Row
  pub items_are : row_items row ≡ c.entries
  pub stands : RowStands dims pages c.level row
  pub shape : RowHasShape dims most row
  pub pairs_are : pairs ≡ pairs_before ++ objects_in row
  pub pages_are : (n : ℕ) → times_in n list ≡ times_in n list_before + occurs n row

-- ---- the page that is damaged where no such tree stands

-- a node names the page as that of a child
abbrev pub Names : NodeContent → ℕ → Type 0
Names c page = (0 < c.level) × Contains (references_of c) page

-- a walk leads from one page to another, each time to a page that the node of the one before names
abbrev pub Leads : ℕ → PageMap → ℕ → List ℕ → ℕ → Type 0
Leads dims pages page [] last = last ≡ page
Leads dims pages page (next ∷ walk) last =
    ((c : NodeContent) × (node_in dims (pages page) ≡ Some c) × Names c next)
    × Leads dims pages next walk last

-- some walk from a page comes to another
abbrev pub ComesTo : ℕ → PageMap → ℕ → ℕ → Type 0
ComesTo dims pages page last = (walk : List ℕ) × Leads dims pages page walk last

-- and no node of the level that is left there
abbrev pub ComesToNone : ℕ → PageMap → ℕ → ℕ → ℕ → Type 0
ComesToNone dims pages page level last = (walk : List ℕ) × Leads dims pages page walk last
    × ((c : NodeContent) → node_in dims (pages last) ≡ Some c → ¬ (c.level + length walk ≡ level))

-- and some walk from a child of a node
abbrev pub ComesBelow : ℕ → PageMap → NodeContent → ℕ → Type 0
ComesBelow dims pages c last = (next : ℕ) × Names c next × ComesTo dims pages next last
