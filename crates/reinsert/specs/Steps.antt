-- What each step of an insertion does, one word a step: what it keeps of the cache, what it makes of the
-- nodes of a sound map, and how it is refused.
use Rattle.std.specs.Prelude.{◌≡◌, ◌⊎◌, ℕ, ◌+◌, ◌<◌, ◌≤◌, Bool, true, false, List, [], ◌∷◌, ◌++◌, length, map}
use Rattle.std.specs.Prelude.{All, IfErr, IfOk, IfSome, OnOk, Result, Some}
use Rattle.arrayvec.specs.ArrayVec.{array_vec_len}
use Rattle.page_file.specs.Fault.{IsDamage, IsOfDevice}
use Rattle.page_file.specs.declared.fault.Fault.{Fault}
use Rattle.page_file.specs.declared.fault.Fault.TheVariants as fault
use Rattle.page_cache.specs.Cache.{Grows, IsHonest, IsLive, IsPageMap, given, pages, touched_of}
use Rattle.page_cache.specs.Calls.{Asks, Changes}
use Rattle.page_cache.specs.declared.cache.PageCache.{PageCache}
use Rattle.tree_node.specs.Boxes.{RowHasBoxes}
use Rattle.tree_node.specs.Nodes.{Item, NodeContent, content_of, item_of}
use Rattle.tree_node.specs.Rows.{item_in}
use Rattle.tree_node.specs.Shape.{HasLooseShape}
use Rattle.tree_node.specs.Trees.{Branch, Tree}
use Rattle.tree_node.specs.declared.node.Entry.{Entry}
use Rattle.tree_node.specs.declared.node.Node.{Node}
use Rattle.tree_node.specs.declared.node.Root.{Root}
use Rattle.node_page.specs.Checked.{ComesTo}
use Rattle.node_page.specs.Faults.{IsChangeFault, IsNoDamage, NamesInRange}
use Rattle.node_bytes.specs.Layout.{IsOfLevel}
use Rattle.node_page.specs.Standing.{node_in}
use Rattle.reinsert.specs.Inserted.{CanInsert, InsertsTo, IsAt, IsRootFrom, StepsTo, most_new_pages}
use Rattle.reinsert.specs.Inserted.{most_placing_pages}
use Rattle.reinsert.specs.Kept.{EntryHasShape, StateHasShape}
use Rattle.reinsert.specs.Placed.{CanSettle, SettlesTo, items_after, measure_of}
use Rattle.reinsert.specs.Placing.{State}
use Rattle.reinsert.specs.declared.settled.Settled.{Settled}
use Rattle.reinsert.specs.declared.waiting.Wait.{Wait}
use Rattle.reinsert.specs.declared.waiting.Waiting.{Waiting as Room}

-- ---- a node

-- A node of at most the most entries was read, or this was refused.
pub record ReadsFitting {D : ℕ} {B A : Type 0} {m : _} (most : ℕ) (at : Root) (old new : PageCache B A m)
    (read : Node D) (result : Result (Unit {0}) Fault) : Type 0 where
  pub asks : Asks old new result
  pub node : IsHonest old → IsLive old at.page
      → OnOk result (node_in D (pages old at.page) ≡ Some (content_of read))
  pub faults : IsHonest old → (c : NodeContent) → node_in D (pages old at.page) ≡ Some c → c.level ≡ at.level
      → length c.entries ≤ most → IfErr result IsOfDevice
  pub level : OnOk result (read.level ≡ at.level)
  pub few : OnOk result (array_vec_len read.entries ≤ most)
  pub some : OnOk result (0 < at.level → 0 < array_vec_len read.entries)
  pub refers : OnOk result (All (λ e. IsOfLevel at.level e.reference e.tag) read.entries.items)
  pub given_node : IsHonest old → OnOk result (node_in D (given old at.page) ≡ Some (content_of read))
  pub damaged : IsHonest old → IfErr result (λ f. IsOfDevice f ⊎ (f ≡ fault.Damaged at.page))
  pub other_faults : IfErr result (λ f. IsOfDevice f ⊎ IsDamage f)

-- The entries of a node, at one place with the box of the child that has settled there, and after them what
-- was split off.
pub record HasLower {D : ℕ} (level : ℕ) (entries : List (Entry D)) (at : ℕ) (lower : Settled D)
    (new : List (Entry D)) : Type 0 where
  pub items : map item_of new ≡ items_after (map item_of entries) at lower
  pub some : 0 < length new
  pub few : length new ≤ length entries + 1
  pub refers : All (λ (e : Entry D). IsOfLevel level e.reference e.tag) new

-- The node of these entries settles at the page, whatever their trees are that stand.
abbrev pub SettlesNode : {D : ℕ} {B A : Type 0} {m : _} → ℕ → ℕ → ℕ → ℕ → List Item → PageCache B A m
    → PageCache B A m → List (Wait D) → List Bool → List (Wait D) → List Bool → Result (Settled D) Fault
    → Type 0
SettlesNode {D = D} most top page level items old new waits called waits' called' result =
    (branches : List Branch) → map item_in branches ≡ items → CanSettle D (pages old) page level branches →
    IfOk result (λ s. IsPageMap new
    × SettlesTo D most top level called branches (pages old) (pages new) page s waits waits' called')

-- A node of these entries, at most one too many, was in hand for the page, and has settled there, or this was
-- refused.
pub record SettlesAt {D : ℕ} {B A : Type 0} {m : _} (most top page level : ℕ) (items : List Item)
    (old new : PageCache B A m) (waiting waiting' : Room D) (result : Result (Settled D) Fault) : Type 0
  where
    pub changes : Changes old new result
    pub grows : Grows 1 old new
    pub measure : measure_of waiting' ≤ measure_of waiting
    pub beside : IfOk result (λ s. IfSome s.beside (λ e. IsOfLevel (level + 1) e.reference e.tag))
    pub settled : IsPageMap old
        → SettlesNode most top page level items old new waiting.waits.items waiting.called
        waiting'.waits.items waiting'.called result
    pub sound : IsPageMap old → IsLive old page → OnOk result (IsPageMap new)
    pub faults : IsPageMap old → IsLive old page → IfErr result (IsNoDamage new)
    pub other_faults : IfErr result (IsChangeFault new)

-- The node at a page was read, got other entries and settled, or this was refused: by no damage where it has
-- few enough entries, and those that are asked for.
pub record SettlesThere {D : ℕ} {B A : Type 0} {m : _} (most top : ℕ) (at : Root) (Asked : List Item → Type 0)
    (after : List Item → List Item) (old new : PageCache B A m) (waiting waiting' : Room D)
    (result : Result (Settled D) Fault) : Type 0 where
  pub changes : Changes old new result
  pub grows : Grows 1 old new
  pub measure : measure_of waiting' ≤ measure_of waiting
  pub beside : IfOk result (λ s. IfSome s.beside (λ e. IsOfLevel (at.level + 1) e.reference e.tag))
  pub settled : IsPageMap old → (items : List Item)
      → node_in D (pages old at.page) ≡ Some (record { level = at.level; entries = items })
      → SettlesNode most top at.page at.level (after items) old new waiting.waits.items waiting.called
      waiting'.waits.items waiting'.called result
  pub faults : IsPageMap old → (items : List Item)
      → node_in D (pages old at.page) ≡ Some (record { level = at.level; entries = items })
      → Asked items → length items ≤ most → IfErr result (IsNoDamage new)
  pub sound : IsPageMap old → OnOk result (IsPageMap new)
  pub damaged : IsPageMap old → IfErr result (λ f. IsNoDamage new f ⊎ (f ≡ fault.Damaged at.page))
  pub other_faults : IfErr result (IsChangeFault new)

-- ---- a tree

-- One entry was placed in the tree at a root, and waits no longer, or this was refused.
pub record PlacesOne {D : ℕ} {B A : Type 0} {m : _} (most : ℕ) (from : Root) (first : Wait D)
    (old new : PageCache B A m) (waiting waiting' : Room D) (result : Result Root Fault) : Type 0 where
  pub changes : Changes old new result
  pub grows : Grows most_placing_pages old new
  pub measure : measure_of waiting' ≤ measure_of waiting
  pub root : IfOk result (IsRootFrom from)
  pub placed : IsPageMap old → (s : State) (elsewhere : ℕ → ℕ)
      → IsAt D (pages old) from (waiting.waits.items ++ first ∷ []) waiting.called elsewhere s →
      IfOk result (λ after. IsPageMap new
      × StepsTo D most (pages old) (pages new) elsewhere s after waiting'.waits.items waiting'.called)
  pub faults : IsPageMap old → (s : State) (elsewhere : ℕ → ℕ)
      → IsAt D (pages old) from (waiting.waits.items ++ first ∷ []) waiting.called elsewhere s
      → StateHasShape D most s → IfErr result (IsNoDamage new)
  pub sound : IsPageMap old → OnOk result (IsPageMap new)
  pub stays : IfOk result (λ after. (after ≡ from) ⊎ (touched_of new ≡ true))
  pub damage : IsPageMap old
      → IfErr result (λ f. (n : ℕ) → f ≡ fault.Damaged n → ComesTo D (given old) from.page n)
  pub other_faults : IfErr result (IsChangeFault new)

-- An entry was inserted at a level of the tree at a root, or this was refused.
pub record Inserts {D : ℕ} {B A : Type 0} {m : _} (most : ℕ) (from : Root) (entry : Entry D) (level : ℕ)
    (old new : PageCache B A m) (result : Result Root Fault) : Type 0 where
  pub changes : Changes old new result
  pub grows : Grows most_new_pages old new
  pub root : IfOk result (IsRootFrom from)
  pub inserted : IsPageMap old → (t : Tree) (branch : Branch) (elsewhere : ℕ → ℕ)
      → CanInsert D (pages old) from (item_of entry) level t branch elsewhere →
      IfOk result (λ after. IsPageMap new
      × InsertsTo D most (pages old) (pages new) level t branch elsewhere after)
  pub faults : IsPageMap old → (t : Tree) (branch : Branch) (elsewhere : ℕ → ℕ)
      → CanInsert D (pages old) from (item_of entry) level t branch elsewhere
      → HasLooseShape D most t → RowHasBoxes D t.row → EntryHasShape D most level branch →
      IfErr result (IsNoDamage new)
  pub damage : IsPageMap old → touched_of new ≡ false
      → IfErr result (λ f. (n : ℕ) → f ≡ fault.Damaged n → ComesTo D (given old) from.page n)
  pub sound : IsPageMap old → OnOk result (IsPageMap new)
  pub number : IsPageMap old → IfErr result NamesInRange
  pub other_faults : IfErr result (IsChangeFault new)
