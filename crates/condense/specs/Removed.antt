-- What a removal needs of the pages, and what it leaves (our rule, docs/FORMAT.md, "Trees of pages").
use Rattle.std.specs.Prelude.{◌≡◌, ◌⊎◌, ℕ, ◌+◌, ◌*◌, ◌^◌, ◌<◌, ◌≤◌, List, [], ◌∷◌, IsSome, Result}
use Rattle.std.specs.Prelude.{IsErrAnd}
use Rattle.std.specs.List.Sorted.{IsPermutation}
use Rattle.box_math.specs.Objects.{Object}
use Rattle.page_file.specs.Fault.{IsOfDevice}
use Rattle.page_file.specs.declared.fault.Fault.{Fault}
use Rattle.page_file.specs.declared.fault.Fault.TheVariants as fault
use Rattle.page_cache.specs.Cache.{touched_of}
use Rattle.page_cache.specs.declared.cache.PageCache.{PageCache}
use Rattle.tree_node.specs.declared.node.Root.{Root}
use Rattle.tree_node.specs.Nodes.{Item}
use Rattle.tree_node.specs.Boxes.{RowHasBoxes}
use Rattle.tree_node.specs.Shape.{HasShape}
use Rattle.tree_node.specs.Trees.{Tree, objects_in, occurs_in}
use Rattle.node_page.specs.Parts.{Moves}
use Rattle.node_page.specs.Standing.{PageMap, Stands}
use Rattle.reinsert.specs.Inserted.{IsRootOf, most_new_pages}
use Rattle.reinsert.specs.Placed.{Held}
use Rattle.condense.specs.Removal.{IsRemoval}
use Rattle.condense.specs.Taken.{HasTaken}

-- a root after a removal: its page is one that a node can refer to
pub record IsRoot (root : Root) : Type 0 where
  pub low : root.level ≤ 40
  pub page : (3 ≤ root.page) × (root.page < 2 ^ 31)

-- The tree stands at the root. No page is twice in it and elsewhere, and each that occurs elsewhere is live.
pub record CanRemove (dims : ℕ) (m : PageMap) (root : Root) (t : Tree) (elsewhere : ℕ → ℕ) : Type 0 where
  pub at : IsRootOf root t
  pub stands : Stands dims m t
  pub apart : (n : ℕ) → occurs_in n t + elsewhere n ≤ 1
  pub live : (n : ℕ) → 0 < elsewhere n → IsSome (m n)

-- A tree stands at the root, which a lawful removal leads to. Pages that are in neither tree stay; those that
-- came in were not live, and those that went are no longer live.
pub record RemovesTo (dims most : ℕ) (m m' : PageMap) (elsewhere : ℕ → ℕ) (id : ℕ) (removed : Object)
    (t : Tree)
    (root : Root) : Type 0 where
  pub new : Tree
  pub at : IsRootOf root new
  pub stands : Stands dims m' new
  pub removal : IsRemoval dims most elsewhere id removed t new
  pub moves : Moves m m' (λ n. occurs_in n t) (λ n. occurs_in n new)

-- By how many pages the live ones grow at most: a removal keeps up to 39 entries of each of 40 levels, and
-- inserts each once.
abbrev pub most_removal_pages : ℕ
most_removal_pages = 1560 * most_new_pages

-- the tree stood at the root, and the object was taken out below it; what the root has become is in hand
pub record TookOut (dims most : ℕ) (m m' : PageMap) (root : Root) (t : Tree) (elsewhere : ℕ → ℕ) (id : ℕ)
    (removed : Object) (held : List Held) (items : List Item) : Type 0 where
  pub can : CanRemove dims m root t elsewhere
  pub taken : HasTaken dims most m m' t.level id removed t.row [] held items

-- no object was removed and no page touched: the root's page is answered as damaged, unless memory or the
-- device refused before
abbrev pub IsRefused : {D A : Type 0} {m : _} → ℕ → PageCache D A m → PageCache D A m → Result Root Fault
    → Type 0
IsRefused page old new result =
    (touched_of new ≡ touched_of old) × IsErrAnd result (λ f. IsOfDevice f ⊎ (f ≡ fault.Damaged page))

-- ---- laws

-- the old tree has the objects of the new one, and the one that was removed
abbrev pub RemovalKeepsObjects : Type 0
RemovalKeepsObjects =
    (dims most : ℕ) (elsewhere : ℕ → ℕ) (id : ℕ) (removed : Object) (old new : Tree)
    → IsRemoval dims most elsewhere id removed old new
    → IsPermutation ((id, removed) ∷ objects_in new.row) (objects_in old.row)

-- a tree of the shape of an R-tree keeps that shape
abbrev pub RemovalKeepsShape : Type 0
RemovalKeepsShape =
    (dims most : ℕ) (elsewhere : ℕ → ℕ) (id : ℕ) (removed : Object) (old new : Tree)
    → IsRemoval dims most elsewhere id removed old new → 4 ≤ most → RowHasBoxes dims old.row
    → HasShape dims most old → HasShape dims most new × RowHasBoxes dims new.row
