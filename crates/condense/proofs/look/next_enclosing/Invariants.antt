-- What holds at each turn of the loop of `next_enclosing`, and that it ends.
use Rattle.std.proofs.Common.{ℕ, ◌-◌, ◌<◌, ◌≤◌, length}
use Rattle.box_math.specs.Bounds.{Within}
use Rattle.tree_node.specs.Boxes.{box_at}
use Rattle.node_bytes.specs.Views.{content_in}
use Rattle.condense.proofs.look.next_enclosing.Given as goal

-- no entry so far encloses the object's box
abbrev pub invariant-entries : goal.invariant-entries
invariant-entries g l = (l.from ≤ l.place)
    × ((k : ℕ) → k < l.place → l.from ≤ k → k < length (content_in l.node).entries
    → ¬ Within g.row.D l.bounds (box_at (content_in l.node).entries k))

abbrev pub decreases-entries : goal.decreases-entries
decreases-entries g l = 256 - l.place
