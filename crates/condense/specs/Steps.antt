-- What each step of a removal does, one word a step: what it keeps of the cache, what it makes of the nodes
-- of a sound map, and how it is refused.
use Rattle.std.specs.Prelude.{◌≡◌, ◌⊎◌, ℕ, ◌+◌, ◌*◌, ◌<◌, ◌≤◌, true, false, List, ◌∷◌, length}
use Rattle.std.specs.Prelude.{None, IfErr, IfNone, IfOk, IfSome, IsSome, OnErr, OnOk, Option, Result, Some}
use Rattle.std.specs.Prelude.{slice_index_or}
use Rattle.std.specs.List.{Contains}
use Rattle.std.specs.List.Sorted.{IsPermutation}
use Rattle.arrayvec.specs.ArrayVec.{array_vec_len}
use Rattle.block_device.specs.Device.{one_more}
use Rattle.box_math.specs.Bounds.{Bounds, Within}
use Rattle.box_math.specs.Objects.{Object, bounds_of, tag_of}
use Rattle.page_file.specs.Fault.{IsDamage, IsOfDevice}
use Rattle.page_file.specs.Pages.{SameBut}
use Rattle.page_file.specs.declared.fault.Fault.{Fault}
use Rattle.page_file.specs.declared.fault.Fault.TheVariants as fault
use Rattle.page_cache.specs.Cache.{Grows, IsHonest, IsLive, IsPageMap, given, looks_of, pages, touched_of}
use Rattle.page_cache.specs.Calls.{Asks, AsksUntil, Changes}
use Rattle.page_cache.specs.declared.cache.PageCache.{PageCache}
use Rattle.tree_node.specs.Boxes.{RowHasBoxes, box_at}
use Rattle.tree_node.specs.Nodes.{Item, NodeContent}
use Rattle.tree_node.specs.Shape.{HasShape}
use Rattle.tree_node.specs.Trees.{Row, Tree, objects_in}
use Rattle.tree_node.specs.declared.node.Node.{Node}
use Rattle.tree_node.specs.declared.node.Root.{Root}
use Rattle.node_page.specs.Checked.{ComesTo}
use Rattle.node_page.specs.Faults.{IsChangeFault, IsNoDamage, NamesInRange}
use Rattle.node_page.specs.Standing.{PageMap, Stands, node_in}
use Rattle.reinsert.specs.Inserted.{IsRootOf}
use Rattle.reinsert.specs.Placed.{Held}
use Rattle.condense.specs.Removed.{CanRemove, IsRefused, IsRoot, RemovesTo, most_removal_pages}
use Rattle.condense.specs.Becoming.{HasBecome, IsFewInHand, IsNext, IsNow, IsStill, LeadsDown, StaysAbove}
use Rattle.condense.specs.Spelled.{HasLevel, HasPlace, KeepsNodes}
use Rattle.condense.specs.Taken.{LeadsTo, TookBelow, held_now, tree_at}
use Rattle.condense.specs.declared.hand.Became.{Became}
use Rattle.condense.specs.declared.hand.Next.{Next}
use Rattle.condense.specs.declared.kept.Orphans.{Orphans}

-- ---- a node

-- The next child of a node was sought in one look, from a place on, whose box encloses the one that is sought,
-- or this was refused.
pub record FindsNext {B A : Type 0} {m : _} (dims from : ℕ) (at : Root) (sought : Bounds)
    (old new : PageCache B A m) (result : Result (Option Next) Fault) : Type 0 where
  pub asks : Asks old new result
  pub looks : OnOk result (looks_of new ≡ one_more (looks_of old))
  pub is_next : IfOk result (λ found. IfSome found (λ next. IsNext at next))
  pub place : IfOk result (λ found. IfSome found (λ next. (from ≤ next.place) × (next.place < 100)))
  pub given_node : IsHonest old → IfOk result (λ found. IfSome found (λ next.
      LeadsDown dims (given old) at next))
  pub encloses : IsHonest old → (c : NodeContent) → node_in dims (pages old at.page) ≡ Some c
      → IfOk result (λ found. IfSome found (λ next. Within dims sought (box_at c.entries next.place)))
  pub before : IsHonest old → (c : NodeContent) → node_in dims (pages old at.page) ≡ Some c
      → IfOk result (λ found. IfSome found (λ next. (k : ℕ) → from ≤ k → k < next.place
      → k < length c.entries → ¬ Within dims sought (box_at c.entries k)))
  pub none : IsHonest old → (c : NodeContent) → node_in dims (pages old at.page) ≡ Some c
      → IfOk result (λ found. IfNone found ((k : ℕ) → from ≤ k → k < length c.entries
      → ¬ Within dims sought (box_at c.entries k)))
  pub there : IsHonest old → (c : NodeContent) → node_in dims (pages old at.page) ≡ Some c
      → c.level ≡ at.level → IfErr result IsOfDevice
  pub faults : IsHonest old → IfErr result (λ f. IsOfDevice f ⊎ (f ≡ fault.Damaged at.page))
  pub other_faults : IfErr result (λ f. IsOfDevice f ⊎ IsDamage f)

-- The object's first place in a leaf was sought in one look, or this was refused.
pub record FindsHere {B A : Type 0} {m : _} (dims page id : ℕ) (object : Object) (old new : PageCache B A m)
    (result : Result (Option ℕ) Fault) : Type 0 where
  pub asks : Asks old new result
  pub looks : OnOk result (looks_of new ≡ one_more (looks_of old))
  pub found : IsHonest old → (c : NodeContent) → node_in dims (pages old page) ≡ Some c
      → IfOk result (λ found. IfSome found (λ at. (d : Item) → (at < length c.entries)
      × (slice_index_or c.entries at d
      ≡ record { bounds = bounds_of object; reference = id; tag = tag_of object })))
  pub first : IsHonest old → (c : NodeContent) → node_in dims (pages old page) ≡ Some c
      → IfOk result (λ found. IfSome found (λ at. (k : ℕ) → k < at → (d : Item)
      → ¬ (slice_index_or c.entries k d
      ≡ record { bounds = bounds_of object; reference = id; tag = tag_of object })))
  pub none : IsHonest old → (c : NodeContent) → node_in dims (pages old page) ≡ Some c
      → IfOk result (λ found. IfNone found ((at : ℕ) (d : Item) → at < length c.entries
      → ¬ (slice_index_or c.entries at d
      ≡ record { bounds = bounds_of object; reference = id; tag = tag_of object })))
  pub given_leaf : IsHonest old → IfOk result (λ found. IfSome found (λ at. HasPlace dims page 0 at (given old)))
  pub there : IsHonest old → (c : NodeContent) → node_in dims (pages old page) ≡ Some c
      → c.level ≡ 0 → IfErr result IsOfDevice
  pub faults : IsHonest old → IfErr result (λ f. IsOfDevice f ⊎ (f ≡ fault.Damaged page))
  pub other_faults : IfErr result (λ f. IsOfDevice f ⊎ IsDamage f)

-- A node that has an entry in the place got other entries, or this was refused, and nothing was changed.
pub record Alters {D : ℕ} {B A : Type 0} {m : _} (most place : ℕ) (after : List Item → List Item) (at : Root)
    (old new : PageCache B A m) (hand : Node D) (result : Result (Became D) Fault) : Type 0 where
  pub changes : Changes old new result
  pub grows : Grows 0 old new
  pub cut : IfOk result (IsFewInHand most at.level hand)
  pub now : IsHonest old → (c : NodeContent) → node_in D (pages old at.page) ≡ Some c → c.level ≡ at.level
      → IfOk result (IsNow most (pages new at.page) at.level (after c.entries) hand)
  pub still : IsHonest old → (c : NodeContent) → node_in D (pages old at.page) ≡ Some c → c.level ≡ at.level
      → IfOk result (IsStill most at.page at.level (pages new))
  pub others : IsHonest old → IsLive old at.page → SameBut at.page (pages old) (pages new)
  pub sound : IsPageMap old → IsLive old at.page → IsPageMap new
  pub refused : OnErr result (touched_of new ≡ touched_of old)
  pub given_node : IsHonest old → OnOk result (HasLevel D at.page at.level (given old))
  pub faults : IsHonest old → (c : NodeContent) → node_in D (pages old at.page) ≡ Some c → c.level ≡ at.level
      → place < length c.entries → IfErr result IsOfDevice
  pub named : IsHonest old → IfErr result (λ f. IsOfDevice f ⊎ (f ≡ fault.Damaged at.page))
  pub other_faults : IfErr result (λ f. IsOfDevice f ⊎ IsDamage f)

-- The child in a place, below which the object was taken out, leaves the node, or its box there is made
-- least, or this was refused.
pub record PutsChild {D : ℕ} {B A : Type 0} {m : _} (most : ℕ) (at : Root) (next : Next) (became : Became D)
    (old new : PageCache B A m) (hand hand' : Node D) (kept kept' : Orphans D)
    (result : Result (Became D) Fault) : Type 0 where
  pub changes : Changes old new result
  pub grows : Grows 0 old new
  pub cut : IfOk result (IsFewInHand most at.level hand')
  pub room : array_vec_len kept'.list ≤ array_vec_len kept.list + 39
  pub taken : IsPageMap old → (above : LeadsDown D (pages old) at next)
      → IsStill most next.below.page next.below.level (pages old) became
      → (m m1 : PageMap) (id : ℕ) (removed : Object) (row : Row) (held : List Held) (lower : List Item)
      → TookBelow D most m m1 at.page at.level id removed row next.place held (held_now kept)
      above.node.entries lower → SameBut next.below.page m1 (pages old)
      → IsNow most (pages old next.below.page) next.below.level lower hand became
      → IfOk result (HasBecome most m (pages new) at id removed row held (held_now kept') hand')
  pub sound : IsPageMap old → LeadsDown D (pages old) at next
      → IsStill most next.below.page next.below.level (pages old) became → IsPageMap new
  pub still : IsPageMap old → LeadsDown D (pages old) at next
      → IsStill most next.below.page next.below.level (pages old) became
      → IfOk result (IsStill most at.page at.level (pages new))
  pub stay : IsPageMap old → LeadsDown D (pages old) at next
      → IsStill most next.below.page next.below.level (pages old) became
      → KeepsNodes D (at.level + 1) (pages old) (pages new)
  pub faults : IsPageMap old → LeadsDown D (pages old) at next
      → IsStill most next.below.page next.below.level (pages old) became → IfErr result IsOfDevice
  pub touched : IsPageMap old → IsLive old next.below.page
      → OnOk result ((kept'.list.items ≡ kept.list.items) ⊎ (touched_of new ≡ true))
  pub other_faults : IfErr result (λ f. IsOfDevice f ⊎ IsDamage f)

-- ---- a tree

-- The object was taken out below a node, where a leaf there has it, or this was refused: the answer is what
-- the node has become, where one has it.
pub record TakesOutBelow {D : ℕ} {B A : Type 0} {m : _} (most : ℕ) (at : Root) (id : ℕ) (object : Object)
    (old new : PageCache B A m) (kept kept' : Orphans D) (hand : Node D)
    (result : Result (Option (Became D)) Fault) : Type 0 where
  pub changes : Changes old new result
  pub grows : Grows 0 old new
  pub cut : IfOk result (λ found. IfSome found (IsFewInHand most at.level hand))
  pub room : array_vec_len kept'.list ≤ array_vec_len kept.list + 39 * at.level
  pub none : IfOk result (λ found. IfNone found
      (AsksUntil old new None × (kept'.list.items ≡ kept.list.items)))
  pub taken : IsPageMap old → (row : Row) → Stands D (pages old) (tree_at at row)
      → IfOk result (λ found. IfSome found
      (HasBecome most (pages old) (pages new) at id object row (held_now kept) (held_now kept') hand))
  pub found : IsPageMap old → (row : Row) → Stands D (pages old) (tree_at at row) → LeadsTo D id object row
      → IfOk result (λ found. IsSome found)
  pub absent : IsPageMap old → (row : Row) → Stands D (pages old) (tree_at at row)
      → ¬ Contains (objects_in row) (id, object) → OnErr result (touched_of new ≡ touched_of old)
  pub faults : IsPageMap old → (row : Row) → Stands D (pages old) (tree_at at row) → IfErr result IsOfDevice
  pub sound : IsPageMap old → IfOk result (λ found. IfSome found (λ _. IsPageMap new))
  pub stays : IsPageMap old → IfOk result (λ found. IfSome found
      (StaysAbove most at (pages old) (pages new)))
  pub touched : IsPageMap old → IfOk result (λ found. IfSome found
      (λ _. (kept'.list.items ≡ kept.list.items) ⊎ (touched_of new ≡ true)))
  pub damage : IsPageMap old
      → IfErr result (λ f. (n : ℕ) → f ≡ fault.Damaged n → ComesTo D (given old) at.page n)
  pub other_faults : IfErr result (λ f. IsOfDevice f ⊎ IsDamage f)

-- The object was removed from the tree at a root, or this was refused.
pub record Removes {B A : Type 0} {m : _} (dims most : ℕ) (from : Root) (id : ℕ) (object : Object)
    (old new : PageCache B A m) (result : Result Root Fault) : Type 0 where
  pub changes : Changes old new result
  pub grows : Grows most_removal_pages old new
  pub root : IfOk result IsRoot
  pub removed : IsPageMap old → (t : Tree) (elsewhere : ℕ → ℕ) → CanRemove dims (pages old) from t elsewhere
      → IfOk result (λ after. IsPageMap new
      × RemovesTo dims most (pages old) (pages new) elsewhere id object t after)
  pub shape : IsPageMap old → (t : Tree) (elsewhere : ℕ → ℕ) → CanRemove dims (pages old) from t elsewhere
      → HasShape dims most t → RowHasBoxes dims t.row
      → IfOk result (λ after. (new_tree : Tree) → IsRootOf after new_tree → Stands dims (pages new) new_tree
      → HasShape dims most new_tree
      × IsPermutation ((id, object) ∷ objects_in new_tree.row) (objects_in t.row))
  pub absent : IsPageMap old → (t : Tree) (elsewhere : ℕ → ℕ) → CanRemove dims (pages old) from t elsewhere
      → ¬ Contains (objects_in t.row) (id, object) → IsRefused from.page old new result
  pub faults : IsPageMap old → (t : Tree) (elsewhere : ℕ → ℕ) → CanRemove dims (pages old) from t elsewhere
      → HasShape dims most t → RowHasBoxes dims t.row → Contains (objects_in t.row) (id, object)
      → IfErr result (IsNoDamage new)
  pub damage : IsPageMap old → touched_of new ≡ false
      → IfErr result (λ f. (n : ℕ) → f ≡ fault.Damaged n → ComesTo dims (given old) from.page n)
  pub number : IsPageMap old → IfErr result NamesInRange
  pub other_faults : IfErr result (IsChangeFault new)
