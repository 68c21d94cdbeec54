-- Worked keys of the choice (docs/RULES.md). No other proof rests on them.
use Rattle.std.proofs.Common.{◌≡◌, ℕ, List, [], ◌∷◌, refl, pos}
use Rattle.box_math.specs.Bounds.{Bounds}
use Rattle.tree_node.specs.Nodes.{Item}
use Rattle.choose_subtree.specs.Choice.{child_key}

abbrev box : ℕ → ℕ → ℕ → ℕ → Bounds
box x y x' y' = record { low = pos x ∷ pos y ∷ []; high = pos x' ∷ pos y' ∷ [] }

abbrev tall_and_wide : List Item
tall_and_wide =
    record { bounds = box 0 0 2 100; reference = 10; tag = 0 }
    ∷ record { bounds = box 2 0 30 4; reference = 11; tag = 0 } ∷ []

-- where the children are leaves the second key is less
keys_of_leaves : (child_key 2 1 tall_and_wide (box 3 100 3 100) 0 ≡ 4 ∷ 100 ∷ 200 ∷ [])
    × (child_key 2 1 tall_and_wide (box 3 100 3 100) 1 ≡ 0 ∷ 2688 ∷ 112 ∷ [])
unfolding child_key Rattle.choose_subtree.specs.Choice.overlap_at Rattle.box_math.specs.Measures.overlap_of
    Rattle.box_math.specs.Bounds.meets_test
keys_of_leaves = (refl, refl)

-- higher up the first
keys_higher_up : (child_key 2 2 tall_and_wide (box 3 100 3 100) 0 ≡ 100 ∷ 200 ∷ [])
    × (child_key 2 2 tall_and_wide (box 3 100 3 100) 1 ≡ 2688 ∷ 112 ∷ [])
unfolding child_key
keys_higher_up = (refl, refl)

abbrev two_leaves : List Item
two_leaves =
    record { bounds = box 0 0 2 2; reference = 3; tag = 0 }
    ∷ record { bounds = box 100 100 104 102; reference = 4; tag = 0 } ∷ []

keys_without_overlap : (child_key 2 1 two_leaves (box 60 60 60 60) 0 ≡ 0 ∷ 3596 ∷ 4 ∷ [])
    × (child_key 2 1 two_leaves (box 60 60 60 60) 1 ≡ 0 ∷ 1840 ∷ 8 ∷ [])
unfolding child_key Rattle.choose_subtree.specs.Choice.overlap_at Rattle.box_math.specs.Measures.overlap_of
    Rattle.box_math.specs.Bounds.meets_test
keys_without_overlap = (refl, refl)
