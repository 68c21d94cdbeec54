-- What placing one entry makes of a tree (InsertData and OverflowTreatment of Beckmann, Kriegel, Schneider
-- and Seeger 1990; where new entries stand, and that an overflow of the root calls its level, are our rule,
-- docs/RULES.md).
use Rattle.std.specs.Prelude.{◌≡◌, ℕ, zero, suc, ◌+◌, ◌-◌, ◌≤◌, Bool, true, not, ◌&&◌, nat_lt, nat_le}
use Rattle.std.specs.Prelude.{MatchBool, List, [], ◌∷◌, ◌++◌, length, map, set, Option, Some, None}
use Rattle.box_math.specs.Bounds.{Bounds}
use Rattle.tree_node.specs.Trees.{Row, Branch, Tree, row_items, occurs_in}
use Rattle.tree_node.specs.Rows.{Waiter, branches_of, row_of, item_in, occurs_waiting}
use Rattle.tree_node.specs.Positions.{pick}
use Rattle.tree_node.specs.Boxes.{least_box}
use Rattle.choose_subtree.specs.Choice.{IsChosenChild}
use Rattle.rstar_split.specs.Cuts.{Splits}
use Rattle.reinsert.specs.Children.{Child, child_at, with_child, boxed}
use Rattle.reinsert.specs.Called.{is_called}
use Rattle.reinsert.specs.Far.{far_count, far_places, near_places}

-- what became of a node: its entries, the node that was split off, what waits again, and the levels called
pub record Outcome : Type 0 where
  pub row : Row
  pub beside : Option Child
  pub far : List Waiter
  pub called : List Bool

-- the entries wait for a node of their level
abbrev pub waiting_on : ℕ → List Branch → List Waiter
waiting_on level branches = map (λ branch. record { branch = branch; level = level }) branches

-- the far set waits again, and the rest stays
abbrev pub reinserted : ℕ → ℕ → ℕ → List Bool → List Branch → Outcome
reinserted dims most level called branches = let items = map item_in branches in record {
  row = row_of (pick branches (near_places dims (far_count most) items));
  beside = None;
  far = waiting_on level (pick branches (far_places dims (far_count most) items));
  called = set called level true;
}

-- the node is split: the first group stays, and the second has another page
pub record IsSplit (dims most level : ℕ) (called : List Bool) (branches : List Branch)
    (outcome : Outcome) : Type 0
  where
    pub page : ℕ
    pub first : List ℕ
    pub second : List ℕ
    pub splits : Splits dims most (map item_in branches) first second
    pub is : outcome ≡ record {
      row = row_of (pick branches first);
      beside = Some (record { page = page; row = row_of (pick branches second) });
      far = [];
      called = set called level true;
    }

-- A node of at most the most entries stays. Of another one, below the root's level and where its level was
-- not called, the far set waits again; else it is split.
abbrev pub Settles : ℕ → ℕ → ℕ → ℕ → List Bool → List Branch → Outcome → Type 0
Settles dims most top level called branches outcome =
    MatchBool (nat_le (length branches) most)
    (outcome ≡ record { row = row_of branches; beside = None; far = []; called = called })
    (MatchBool (nat_lt level top && not (is_called called level))
    (outcome ≡ reinserted dims most level called branches)
    (IsSplit dims most level called branches outcome))

-- the entry of a node that was split off
abbrev pub beside_branches : ℕ → Option Child → List Branch
beside_branches dims None = []
beside_branches dims (Some c) = boxed dims c ∷ []

-- the entries of a node whose child has settled: the child's box is the least, and what was split off comes
-- last
abbrev pub after_child : ℕ → Row → ℕ → Outcome → List Branch
after_child dims row at below =
    branches_of (with_child row at (least_box dims (row_items below.row)) below.row)
    ++ beside_branches dims below.beside

-- the chosen child settles first, and then the node above it
pub record GoesBelow (dims level : ℕ) (Below : Row → Outcome → Type 0)
    (Above : List Bool → List Branch → Outcome → Type 0) (bounds : Bounds) (row : Row)
    (outcome : Outcome) : Type 0 where
  pub at : ℕ
  pub chosen : IsChosenChild dims level (row_items row) bounds at
  pub from : Child
  pub there : child_at row at ≡ Some from
  pub below : Outcome
  pub settled : Below from.row below
  pub above : Outcome
  pub settles : Above below.called (after_child dims row at below) above
  pub is : outcome ≡ record above { far = above.far ++ below.far }

-- the entry goes into the node so many levels below this one that the choice leads to, and stands last there
abbrev pub Places : ℕ → ℕ → ℕ → ℕ → ℕ → List Bool → Branch → Row → Outcome → Type 0
Places dims most top level zero called branch row outcome =
    Settles dims most top level called (branches_of row ++ branch ∷ []) outcome
Places dims most top level (suc down) called branch row outcome =
    GoesBelow dims level (Places dims most top (level - 1) down called branch) (Settles dims most top level)
    (item_in branch).bounds row outcome

-- a root that was split gets a new root over the two
abbrev pub IsRootAfter : ℕ → Tree → Row → Option Child → Tree → Type 0
IsRootAfter dims old row None new = new ≡ record { page = old.page; level = old.level; row = row }
IsRootAfter dims old row (Some beside) new =
    (page : ℕ) × (new ≡ record {
      page = page;
      level = old.level + 1;
      row = row_of (boxed dims (record { page = old.page; row = row }) ∷ boxed dims beside ∷ []);
    })

-- a tree, what waits for it, the first to be placed first, and the levels called
pub record State : Type 0 where
  pub tree : Tree
  pub waiting : List Waiter
  pub called : List Bool

-- The first that waits is placed, and what its placing takes out waits before the others. No page is then
-- twice in the tree, in what waits and elsewhere: so a page that comes in is in none of them.
pub record Placing (dims most : ℕ) (elsewhere : ℕ → ℕ) (old new : State) : Type 0 where
  pub first : Waiter
  pub rest : List Waiter
  pub waits : old.waiting ≡ first ∷ rest
  pub fits : first.level ≤ old.tree.level
  pub outcome : Outcome
  pub places : Places dims most old.tree.level old.tree.level (old.tree.level - first.level) old.called
      first.branch
      old.tree.row outcome
  pub root : IsRootAfter dims old.tree outcome.row outcome.beside new.tree
  pub waiting : new.waiting ≡ outcome.far ++ rest
  pub called : new.called ≡ outcome.called
  pub distinct : (n : ℕ) → occurs_in n new.tree + occurs_waiting n new.waiting + elsewhere n ≤ 1
