-- What holds at each turn of the loop of `position_of`, and that it ends.
use Rattle.std.proofs.Common.{◌≡◌, ℕ, ◌-◌, ◌<◌, get_or, length}
use Rattle.tree_node.specs.Nodes.{Item}
use Rattle.node_bytes.specs.Views.{content_in}
use Rattle.condense.proofs.leaf.position_of.Given as goal

-- no entry so far is the object's
abbrev pub invariant-entries : goal.invariant-entries
invariant-entries g l = (k : ℕ) → k < l.place → (d : Item) → k < length (content_in l.leaf).entries
    → ¬ (get_or (content_in l.leaf).entries k d ≡ record { bounds = l.bounds; reference = l.id; tag = l.tag })

abbrev pub decreases-entries : goal.decreases-entries
decreases-entries g l = 256 - l.place
