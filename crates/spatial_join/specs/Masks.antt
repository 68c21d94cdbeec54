-- Which entries of a node a mask names: bit k stands for the entry in place k.
use Rattle.std.specs.Prelude.{◌≡◌, ℕ, ◌<◌, Bool, true, List, length}
use Rattle.box_math.specs.Bounds.{Bounds, IsBox}
use Rattle.box_math.specs.Masks.{has_bit}
use Rattle.tree_node.specs.Boxes.{box_at}
use Rattle.tree_node.specs.Nodes.{Item}

-- the mask says of each entry whether its box passes the test, and of no other place that one does
pub record Tells (test : Bounds → Bool) (mask : ℕ) (items : List Item) : Type 0 where
  pub told : (k : ℕ) → k < length items → has_bit mask k ≡ test (box_at items k)
  pub within : (k : ℕ) → has_bit mask k ≡ true → k < length items

-- the entries have boxes of so many axes
abbrev pub HaveBoxes : ℕ → List Item → Type 0
HaveBoxes dims items = (k : ℕ) → k < length items → IsBox dims (box_at items k)
