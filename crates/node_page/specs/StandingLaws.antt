-- The laws of trees in pages (our rule, docs/FORMAT.md, "Trees of pages").
use Rattle.std.specs.Prelude.{◌≡◌, ℕ, ◌^◌, ◌<◌, ◌≤◌, List, Some, IsSome}
use Rattle.block_bytes.specs.Numbers.{AreBytes}
use Rattle.tree_node.specs.Boxes.{RowHasBoxes}
use Rattle.tree_node.specs.Trees.{Tree, Row, RowOnLevel, occurs, occurs_in, tree_with_node}
use Rattle.node_page.specs.Standing.{PageMap, HasNode, RowStands, Stands}

-- at most one tree stands at a page
abbrev pub OneTreeStands : Type 0
OneTreeStands = (dims : ℕ) (pages : PageMap) (s t : Tree) → s.page ≡ t.page → Stands dims pages s
    → Stands dims pages t → s ≡ t

-- each page of a tree that stands is there
abbrev pub PagesAreThere : Type 0
PagesAreThere = (dims : ℕ) (pages : PageMap) (t : Tree) (n : ℕ) → Stands dims pages t → 0 < occurs_in n t
    → IsSome (pages n)

-- each page below the root is one that a node can refer to
abbrev pub ChildPagesAreReferences : Type 0
ChildPagesAreReferences = (dims : ℕ) (pages : PageMap) (t : Tree) (n : ℕ) → Stands dims pages t
    → 0 < occurs n t.row → (3 ≤ n) × (n < 2 ^ 31)

-- the boxes of a tree that stands in pages of bytes are boxes
abbrev pub BoxesAreBoxes : Type 0
BoxesAreBoxes = (dims : ℕ) (pages : PageMap) (t : Tree)
    → ((n : ℕ) (page : List ℕ) → pages n ≡ Some page → AreBytes page) → Stands dims pages t
    → RowHasBoxes dims t.row

-- all leaves of a tree that stands are on level 0
abbrev pub LevelsAreKept : Type 0
LevelsAreKept = (dims : ℕ) (pages : PageMap) (t : Tree) → Stands dims pages t → RowOnLevel t.level t.row

-- pages that are equal where the tree's are stand for it too
abbrev pub EqualPagesStand : Type 0
EqualPagesStand = (dims : ℕ) (old new : PageMap) (t : Tree) → ((n : ℕ) → 0 < occurs_in n t → new n ≡ old n)
    → Stands dims old t → Stands dims new t

-- Where one page of a tree is written with a node of its level whose trees stand, and then no page is in the
-- tree twice, the pages stand for the tree with that node replaced.
abbrev pub ReplacedNodeStands : Type 0
ReplacedNodeStands = (dims : ℕ) (old new : PageMap) (t : Tree) (page level : ℕ) (was now : Row)
    → Stands dims old t → HasNode dims old page level was
    → ((n : ℕ) → ¬ (n ≡ page) → new n ≡ old n) → HasNode dims new page level now
    → RowStands dims new level now
    → ((n : ℕ) → occurs_in n (tree_with_node t page now) ≤ 1) → Stands dims new (tree_with_node t page now)
