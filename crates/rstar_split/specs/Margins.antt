-- The margins of the boxes of the first and of the second groups, each summed by itself.
use Rattle.std.specs.Prelude.{ℕ, ◌+◌, List}
use Rattle.box_math.specs.Measures.{sum_over, margin_of}
use Rattle.tree_node.specs.Nodes.{Item}
use Rattle.rstar_split.specs.Cuts.{front_box, back_box}

-- over so many sizes from m on
unfoldable pub front_margins_of : ℕ → List Item → List ℕ → ℕ → ℕ → ℕ
front_margins_of dims items order m count = sum_over count
    (λ k. margin_of dims (front_box dims items order (m + k)))

unfoldable pub back_margins_of : ℕ → List Item → List ℕ → ℕ → ℕ → ℕ
back_margins_of dims items order m count = sum_over count
    (λ k. margin_of dims (back_box dims items order (m + k)))
