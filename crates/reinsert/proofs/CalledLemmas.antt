-- How many levels are not called.
use Rattle.std.proofs.Common.{◌≡◌, ◌∙◌, ℕ, zero, suc, ◌+◌, ◌≤◌, Bool, true, false, cond, List, [], ◌∷◌, set}
use Rattle.std.proofs.Common.{length, refl, arith}
use Rattle.std.proofs.lemmas.Bool.{true≢false}
use Rattle.std.proofs.lemmas.List.{length-set}
use Rattle.reinsert.specs.Called.{is_called, called_from, free_levels}

one_each : (b : Bool) → cond b 0 1 ≤ 1
one_each true = omega arith
one_each false = omega arith

-- a call takes one off, or none
pub free_levels_le : (called : List Bool) (level : ℕ)
    → free_levels (set called level true) ≤ free_levels called
free_levels_le [] level = omega arith
free_levels_le (b ∷ bs) zero = omega arith
free_levels_le (b ∷ bs) (suc level) = omega (arith, free_levels_le bs level)

-- and one where the level was not called
pub free_levels_fall : (called : List Bool) (level : ℕ) → is_called called level ≡ false
    → free_levels (set called level true) + 1 ≤ free_levels called
free_levels_fall [] level free = absurd (true≢false free)
free_levels_fall (b ∷ bs) zero free = rw free (omega arith)
free_levels_fall (b ∷ bs) (suc level) free = omega (arith, free_levels_fall bs level free)

-- a level that is called no longer adds one, or none
free_levels_rise : (called : List Bool) (level : ℕ)
    → free_levels (set called level false) ≤ free_levels called + 1
free_levels_rise [] level = omega arith
free_levels_rise (b ∷ bs) zero = omega (arith, one_each b)
free_levels_rise (b ∷ bs) (suc level) = omega (arith, free_levels_rise bs level)

-- no more levels are free than there are below this one
pub free_levels_from : (level : ℕ) → free_levels (called_from level) ≤ level
free_levels_from zero = omega arith
free_levels_from (suc level) =
    omega (arith, free_levels_from level, free_levels_rise (called_from level) level)

pub length-called_from : (level : ℕ) → length (called_from level) ≡ 41
length-called_from zero = refl
length-called_from (suc level) = length-set (called_from level) level false ∙ length-called_from level
