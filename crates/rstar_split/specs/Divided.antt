-- The entries of a node, divided by the chosen split.
use Rattle.std.specs.Prelude.{◌≡◌, ℕ, List}
use Rattle.tree_node.specs.declared.node.Entry.{Entry}
use Rattle.tree_node.specs.Nodes.{items_of}
use Rattle.tree_node.specs.Positions.{pick}
use Rattle.rstar_split.specs.Cuts.{Splits}

pub record IsDividedBySplit (D most : ℕ) (entries first second : List (Entry D)) : Type 0 where
  pub places : List ℕ
  pub others : List ℕ
  pub splits : Splits D most (items_of entries) places others
  pub first_is : first ≡ pick entries places
  pub second_is : second ≡ pick entries others
