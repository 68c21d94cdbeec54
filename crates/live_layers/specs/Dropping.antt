-- Layers that go.
use Rattle.std.specs.Prelude.{ℕ, ◌≡◌, List}
use Rattle.tree_node.specs.Trees.{Tree}
use Rattle.live_layers.specs.Keeping.{HasTree}
use Rattle.live_layers.specs.declared.layers.Layers.{Layers}

-- no layer has the name any more, and the trees of all other layers stay
pub record KeepsOtherTrees {D A : Type 0} {m : _} (old new : Layers D A m) (name : List ℕ) : Type 0 where
  pub gone : (t : Tree) → ¬ HasTree new name t
  pub others : (other : List ℕ) (t : Tree) → ¬ (other ≡ name) → HasTree old other t → HasTree new other t
