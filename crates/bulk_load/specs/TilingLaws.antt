-- What runs are, whatever is tiled (our rule, docs/RULES.md, "Packed load").
use Rattle.std.specs.Prelude.{ℕ, ◌+◌, ◌/◌, ◌<◌, ◌≤◌, List, All, length, IsPermutation}
use Rattle.box_math.specs.Bounds.{IsDims}
use Rattle.tree_node.specs.Nodes.{Item}
use Rattle.bulk_load.specs.Tiling.{IsTiled, joined}

-- the runs together hold each element once
abbrev pub RunsHoldEach : Type 0
RunsHoldEach = (dims most : ℕ) (xs : List Item) (runs : List (List Item))
    → IsTiled (λ x. x) dims most xs runs → IsPermutation xs (joined runs)

-- a run has at least half of the most elements, rounded up, and at most the most
abbrev pub IsFair : {A : Type 0} → ℕ → List A → Type 0
IsFair most run = ((most + 1) / 2 ≤ length run) × (length run ≤ most)

-- where there is more than one run, each is so
abbrev pub RunsAreFair : Type 0
RunsAreFair = (dims most : ℕ) (xs : List Item) (runs : List (List Item)) → IsDims dims → 0 < most
    → IsTiled (λ x. x) dims most xs runs → 1 < length runs → All (IsFair most) runs
