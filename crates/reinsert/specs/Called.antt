-- Which levels are called: for each level whether a node on it has overflowed in this insertion
-- (OverflowTreatment of Beckmann, Kriegel, Schneider and Seeger 1990).
use Rattle.std.specs.Prelude.{ℕ, zero, suc, Bool, true, false, List, set, slice_index_or, replicate}
use Rattle.std.specs.Prelude.{if◌then◌else◌}
use Rattle.tree_node.specs.Positions.{total}

abbrev pub is_called : List Bool → ℕ → Bool
is_called called level = slice_index_or called level true

-- no level from 0 to 40, the greatest, is called
abbrev pub none_called : List Bool
none_called = replicate 41 false

-- each level from this one on is called, and none below it
abbrev pub called_from : ℕ → List Bool
called_from zero = replicate 41 true
called_from (suc level) = set (called_from level) level false

-- how many levels are not called
abbrev pub free_levels : List Bool → ℕ
free_levels called = total (λ (b : Bool). if b then 0 else 1) called
