-- What the code has done where kept entries are inserted again, and where the root gives way: the words of
-- its inner contracts (docs/RULES.md, "Removal").
use Rattle.std.specs.Prelude.{◌≡◌, ℕ, ◌+◌, ◌<◌, ◌≤◌, List, map, reverse, IsSome}
use Rattle.tree_node.specs.declared.node.Root.{Root}
use Rattle.tree_node.specs.Boxes.{RowHasBoxes}
use Rattle.tree_node.specs.Rows.{Waiter, occurs_waiting}
use Rattle.tree_node.specs.Shape.{HasLooseShape}
use Rattle.tree_node.specs.Trees.{Tree, occurs_in}
use Rattle.node_page.specs.Changes.{AllWait}
use Rattle.node_page.specs.Parts.{Moves}
use Rattle.node_page.specs.Standing.{PageMap, Stands}
use Rattle.reinsert.specs.Inserted.{IsRootOf}
use Rattle.reinsert.specs.Kept.{AllHaveShape}
use Rattle.reinsert.specs.Placed.{Held, held_in}
use Rattle.condense.specs.Removal.{AreInserted, GivesWay}

-- A tree stands at the root, and so do the trees of what is kept, each entry for a node of a level of the
-- tree. No page is twice in them and elsewhere, and each that occurs elsewhere is live. The code holds what
-- is kept, the first last.
pub record CanFill (dims : ℕ) (m : PageMap) (root : Root) (t : Tree) (kept : List Waiter) (elsewhere : ℕ → ℕ)
    (held : List Held) : Type 0 where
  pub at : IsRootOf root t
  pub stands : Stands dims m t
  pub wait : AllWait dims m kept
  pub apart : (n : ℕ) → occurs_in n t + occurs_waiting n kept + elsewhere n ≤ 1
  pub live : (n : ℕ) → 0 < elsewhere n → IsSome (m n)
  pub holds : held ≡ reverse (map held_in kept)

-- what is kept was inserted
pub record FillsTo (dims most : ℕ) (m m' : PageMap) (t : Tree) (kept : List Waiter) (elsewhere : ℕ → ℕ)
    (root : Root)
    : Type 0 where
  pub new : Tree
  pub at : IsRootOf root new
  pub stands : Stands dims m' new
  pub inserted : AreInserted dims most elsewhere kept t new
  pub moves : Moves m m' (λ n. occurs_in n t + occurs_waiting n kept) (λ n. occurs_in n new)

-- the tree has the shape that an insertion begins with, and so have the trees of what is kept
pub record CanFillShaped (dims most : ℕ) (t : Tree) (ws : List Waiter) : Type 0 where
  pub tree : HasLooseShape dims most t
  pub boxes : RowHasBoxes dims t.row
  pub kept : AllHaveShape dims most t.level ws

-- the root has given way so often as it can
pub record GivesWayTo (dims : ℕ) (m m' : PageMap) (t : Tree) (root : Root) : Type 0 where
  pub new : Tree
  pub at : IsRootOf root new
  pub stands : Stands dims m' new
  pub count : ℕ
  pub lowered : GivesWay count t new
  pub moves : Moves m m' (λ n. occurs_in n t) (λ n. occurs_in n new)
