-- What an insertion needs of the pages, and what it leaves (our rule, docs/FORMAT.md, "Trees of pages").
use Rattle.std.specs.Prelude.{◌≡◌, ℕ, ◌+◌, ◌^◌, ◌<◌, ◌≤◌, Bool, List, IsSome}
use Rattle.tree_node.specs.declared.node.Root.{Root}
use Rattle.tree_node.specs.Nodes.{Item}
use Rattle.tree_node.specs.Trees.{Tree, Branch, more, end, occurs_in}
use Rattle.tree_node.specs.Rows.{item_in, occurs_on, occurs_waiting}
use Rattle.node_page.specs.Standing.{PageMap, Stands, HasNode, RowStands}
use Rattle.node_page.specs.Parts.{Moves}
use Rattle.node_page.specs.Changes.{AllWait}
use Rattle.reinsert.specs.declared.waiting.Wait.{Wait}
use Rattle.reinsert.specs.Placing.{State, Placing}
use Rattle.reinsert.specs.Insertion.{IsInsertion}
use Rattle.reinsert.specs.Placed.{Holds}

-- the tree's root is there
pub record IsRootOf (root : Root) (t : Tree) : Type 0 where
  pub page : t.page ≡ root.page
  pub level : t.level ≡ root.level

-- a root after an insertion: its level did not fall, and its page is one that a node can refer to
pub record IsRootFrom (old new : Root) : Type 0 where
  pub rises : old.level ≤ new.level
  pub low : new.level ≤ 40
  pub page : (3 ≤ new.page) × (new.page < 2 ^ 31)

-- The tree stands at the root, and so does that of the entry, which is for a level of the tree. No page is
-- twice in them and elsewhere, and each that occurs elsewhere is live.
pub record CanInsert (dims : ℕ) (m : PageMap) (root : Root) (item : Item) (level : ℕ) (t : Tree)
    (branch : Branch)
    (elsewhere : ℕ → ℕ) : Type 0 where
  pub at : IsRootOf root t
  pub stands : Stands dims m t
  pub entry : item_in branch ≡ item
  pub entry_stands : RowStands dims m level (more branch end)
  pub fits : level ≤ t.level
  pub apart : (n : ℕ) → occurs_in n t + occurs_on n branch + elsewhere n ≤ 1
  pub live : (n : ℕ) → 0 < elsewhere n → IsSome (m n)

-- A tree stands at the root, which a lawful insertion leads to. Pages that are in neither tree stay; those
-- that came in were not live.
pub record InsertsTo (dims most : ℕ) (m m' : PageMap) (level : ℕ) (t : Tree) (branch : Branch)
    (elsewhere : ℕ → ℕ) (root : Root) : Type 0 where
  pub new : Tree
  pub at : IsRootOf root new
  pub stands : Stands dims m' new
  pub insertion : IsInsertion dims most elsewhere branch level t new
  pub moves : Moves m m' (λ n. occurs_in n t + occurs_on n branch) (λ n. occurs_in n new)

-- ---- by how many pages the live ones grow at most

-- one placing splits a node on each of the levels 0 to 40, and makes one root
abbrev pub most_placing_pages : ℕ
most_placing_pages = 42

-- an insertion has 1 placing, and 30 more for each of 40 levels: 1,201 times 42 pages are fewer
abbrev pub most_new_pages : ℕ
most_new_pages = 2 ^ 16

-- ---- between the placings

-- how often a page occurs in a tree and in what waits
abbrev pub occurs_in_state : State → ℕ → ℕ
occurs_in_state s n = occurs_in n s.tree + occurs_waiting n s.waiting

-- pages and variables are in this state
pub record IsAt {D : ℕ} (dims : ℕ) (m : PageMap) (root : Root) (waits : List (Wait D)) (called : List Bool)
    (elsewhere : ℕ → ℕ) (s : State) : Type 0 where
  pub at : IsRootOf root s.tree
  pub there : HasNode dims m s.tree.page s.tree.level s.tree.row
  pub below : RowStands dims m s.tree.level s.tree.row
  pub far : AllWait dims m s.waiting
  pub holds : Holds waits s.waiting
  pub calls : called ≡ s.called
  pub apart : (n : ℕ) → occurs_in_state s n + elsewhere n ≤ 1
  pub live : (n : ℕ) → 0 < elsewhere n → IsSome (m n)

-- one placing on
pub record StepsTo {D : ℕ} (dims most : ℕ) (m m' : PageMap) (elsewhere : ℕ → ℕ) (s : State) (root : Root)
    (waits : List (Wait D)) (called : List Bool) : Type 0 where
  pub next : State
  pub placing : Placing dims most elsewhere s next
  pub isat : IsAt dims m' root waits called elsewhere next
  pub moves : Moves m m' (occurs_in_state s) (occurs_in_state next)
