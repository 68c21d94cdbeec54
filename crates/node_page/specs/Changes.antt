-- What stands beside a change of some pages, and entries that wait for a place (our rule, docs/FORMAT.md,
-- "Trees of pages").
use Rattle.std.specs.Prelude.{◌≡◌, ℕ, ◌-◌, ◌<◌, List, [], ◌∷◌, ⊤}
use Rattle.tree_node.specs.Rows.{Waiter, occurs_waiting}
use Rattle.tree_node.specs.Trees.{Row, end, more, object, child, Tree, occurs_in}
use Rattle.node_page.specs.Parts.{Moves, Part}
use Rattle.node_page.specs.Standing.{PageMap, RowStands, Stands}

-- an entry that waits stands in the pages as one of a node of its level does
abbrev pub WaiterStands : ℕ → PageMap → Waiter → Type 0
WaiterStands dims pages w = RowStands dims pages w.level (more w.branch end)

-- each of them stands
abbrev pub AllWait : ℕ → PageMap → List Waiter → Type 0
AllWait dims pages [] = ⊤
AllWait dims pages (w ∷ ws) = WaiterStands dims pages w × AllWait dims pages ws

-- each tree below a node of this level stands by itself
abbrev pub ChildrenStand : ℕ → PageMap → ℕ → Row → Type 0
ChildrenStand dims pages level end = ⊤
ChildrenStand dims pages level (more (object kept id) rest) = ChildrenStand dims pages level rest
ChildrenStand dims pages level (more (child bounds page below) rest) =
    Stands dims pages (record { page = page; level = level - 1; row = below })
    × ChildrenStand dims pages level rest

-- ---- laws

-- a tree that stands beside the pages of a change stands after it, and shares no page with them
abbrev pub TreesBesideStand : Type 0
TreesBesideStand = (dims : ℕ) (old new : PageMap) (was now : Part) (t : Tree) → Moves old new was now
    → Stands dims old t → ((n : ℕ) → 0 < occurs_in n t → was n ≡ 0)
    → Stands dims new t × ((n : ℕ) → 0 < occurs_in n t → now n ≡ 0)

-- and so do entries that wait
abbrev pub WaitersBesideStand : Type 0
WaitersBesideStand = (dims : ℕ) (old new : PageMap) (was now : Part) (ws : List Waiter)
    → Moves old new was now → AllWait dims old ws → ((n : ℕ) → 0 < occurs_waiting n ws → was n ≡ 0)
    → AllWait dims new ws × ((n : ℕ) → 0 < occurs_waiting n ws → now n ≡ 0)

-- the trees below the root of a tree that stands do so by themselves
abbrev pub TreesBelowStand : Type 0
TreesBelowStand = (dims : ℕ) (pages : PageMap) (t : Tree) → Stands dims pages t
    → ChildrenStand dims pages t.level t.row
