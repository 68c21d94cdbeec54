-- A lawful removal (Delete and CondenseTree of Guttman 1984; the order of the kept entries, and that each of
-- them is inserted with marks of its own, are our rule, docs/RULES.md, "Removal").
use Rattle.std.specs.Prelude.{◌≡◌, ℕ, zero, suc, ◌+◌, ◌-◌, ◌<◌, nat_lt, List, [], ◌∷◌, ◌++◌, take, drop, Some}
use Rattle.std.specs.Prelude.{if◌then◌else◌}
use Rattle.box_math.specs.Objects.{Object}
use Rattle.tree_node.specs.Boxes.{least_box}
use Rattle.tree_node.specs.Rows.{Waiter, branches_of, row_of, occurs_waiting}
use Rattle.tree_node.specs.Shape.{least_entries}
use Rattle.tree_node.specs.Trees.{Row, Branch, object, Tree, row_items, row_length}
use Rattle.reinsert.specs.Children.{Child, child_at, with_child}
use Rattle.reinsert.specs.Insertion.{IsInsertion}
use Rattle.reinsert.specs.Placing.{waiting_on}

-- the entries without the one at a position
abbrev pub without : List Branch → ℕ → List Branch
without branches at = take at branches ++ drop (at + 1) branches

-- what a node has become, and the entries that are kept to be inserted again, those of the highest level
-- first
pub record Condensed : Type 0 where
  pub row : Row
  pub kept : List Waiter

-- a child with fewer than the least count of entries leaves, and its entries are kept; else its box is made
-- least
abbrev pub condensed : ℕ → ℕ → ℕ → Row → ℕ → Condensed → Condensed
condensed dims most level row at below =
    if nat_lt (row_length below.row) (least_entries most)
    then record {
      row = row_of (without (branches_of row) at);
      kept = waiting_on (level - 1) (branches_of below.row) ++ below.kept;
    }
    else record {
      row = with_child row at (least_box dims (row_items below.row)) below.row;
      kept = below.kept;
    }

-- the entry of an object leaves its leaf, which lies so many levels below the node, and the nodes above it
-- are condensed
abbrev pub TakesOut : ℕ → ℕ → ℕ → ℕ → Object → Row → Condensed → Type 0
TakesOut dims most zero id removed row out =
    (at : ℕ) × (take 1 (drop at (branches_of row)) ≡ object removed id ∷ [])
    × (out ≡ record { row = row_of (without (branches_of row) at); kept = [] })
TakesOut dims most (suc level) id removed row out =
    (at : ℕ) × (from : Child) × (child_at row at ≡ Some from)
    × (below : Condensed) × TakesOut dims most level id removed from.row below
    × (out ≡ condensed dims most (suc level) row at below)

-- the kept entries are inserted one after the other, each at its own level; the trees of those that are still
-- kept stay
abbrev pub AreInserted : ℕ → ℕ → (ℕ → ℕ) → List Waiter → Tree → Tree → Type 0
AreInserted dims most elsewhere [] old new = new ≡ old
AreInserted dims most elsewhere (w ∷ ws) old new =
    (mid : Tree) × IsInsertion dims most (λ n. occurs_waiting n ws + elsewhere n) w.branch w.level old mid
    × AreInserted dims most elsewhere ws mid new

-- so often in a row a root that is no leaf and has one child gives way to it, and then there is no such root
abbrev pub GivesWay : ℕ → Tree → Tree → Type 0
GivesWay zero old new = (new ≡ old) × (0 < old.level → ¬ (row_length old.row ≡ 1))
GivesWay (suc count) old new =
    (0 < old.level) × (row_length old.row ≡ 1) × (from : Child) × (child_at old.row 0 ≡ Some from)
    × GivesWay count (record { page = from.page; level = old.level - 1; row = from.row }) new

-- An object is removed: its entry leaves, the nodes above are condensed, the kept entries come back, and the
-- root gives way.
pub record IsRemoval (dims most : ℕ) (elsewhere : ℕ → ℕ) (id : ℕ) (removed : Object) (old new : Tree)
    : Type 0 where
  pub out : Condensed
  pub takes_out : TakesOut dims most old.level id removed old.row out
  pub filled : Tree
  pub inserted : AreInserted dims most elsewhere out.kept
      (record { page = old.page; level = old.level; row = out.row }) filled
  pub count : ℕ
  pub lowered : GivesWay count filled new
