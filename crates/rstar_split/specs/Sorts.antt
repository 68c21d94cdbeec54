-- The two sorts of an axis, and the least candidate of both.
use Rattle.std.specs.Prelude.{◌≡◌, ℕ, ◌+◌, ◌≤◌, List, length}
use Rattle.tree_node.specs.Nodes.{Item}
use Rattle.tree_node.specs.Keys.{AtMost}
use Rattle.rstar_split.specs.declared.cuts.Cut.{Cut}
use Rattle.rstar_split.specs.declared.sorting.Bound.{Bound}
use Rattle.rstar_split.specs.declared.sorting.Bound.TheVariants.{Lower, Upper}
use Rattle.rstar_split.specs.Cuts.{order_of, cut_key}

-- the positions of all entries, sorted by lower and by upper bound
pub record AreSorts (items : List Item) (axis : ℕ) (lower upper : List ℕ) : Type 0 where
  pub by_lower : lower ≡ order_of items axis Lower
  pub by_upper : upper ≡ order_of items axis Upper

-- the least candidate of an axis, and the positions of the sort that it cuts
pub record CutsAxis (dims : ℕ) (items : List Item) (m axis : ℕ) (places : List ℕ) (cut : Cut) : Type 0 where
  pub order : places ≡ order_of items axis cut.bound
  pub first_full : m ≤ cut.size
  pub second_full : cut.size + m ≤ length items
  pub least : (b : Bound) (s : ℕ) → m ≤ s → s + m ≤ length items
      → AtMost (cut_key dims items axis cut.bound cut.size) (cut_key dims items axis b s)
