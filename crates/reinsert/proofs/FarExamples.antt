-- Worked far sets (docs/RULES.md). No other proof rests on them.
use Rattle.std.proofs.Common.{◌≡◌, ℕ, ◌*◌, List, [], ◌∷◌, refl, pos}
use Rattle.tree_node.specs.Nodes.{Item}
use Rattle.reinsert.specs.Far.{far_order, far_places, farther, near_places}

abbrev at : ℕ → ℕ → ℕ → Item
at id x y =
    record {
      bounds = record { low = pos x ∷ pos y ∷ []; high = pos x ∷ pos y ∷ [] };
      reference = id;
      tag = 3 * id;
    }

abbrev crowd : List Item
crowd = at 3 100 100 ∷ at 4 102 102 ∷ at 5 104 100 ∷ at 6 60 60 ∷ at 8 103 101 ∷ []

crowd_far : (far_places 2 1 crowd ≡ 3 ∷ []) × (near_places 2 1 crowd ≡ 0 ∷ 1 ∷ 2 ∷ 4 ∷ [])
unfolding far_places near_places far_order farther Rattle.tree_node.specs.Boxes.least_box
crowd_far = (refl, refl)

-- equal distances: of the farthest the smaller reference is taken out
abbrev row : List Item
row = at 1 0 0 ∷ at 2 1 0 ∷ at 6 11 0 ∷ at 7 4 0 ∷ at 8 5 0 ∷ []

row_far : (far_places 2 1 row ≡ 0 ∷ []) × (near_places 2 1 row ≡ 1 ∷ 2 ∷ 3 ∷ 4 ∷ [])
unfolding far_places near_places far_order farther Rattle.tree_node.specs.Boxes.least_box
row_far = (refl, refl)

-- three wait, the nearest first
three_far : far_places 2 3 row ≡ 1 ∷ 2 ∷ 0 ∷ []
unfolding far_places far_order farther Rattle.tree_node.specs.Boxes.least_box
three_far = refl
