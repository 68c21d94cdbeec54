-- Sums over lists, and the elements at positions of one.
use Rattle.std.specs.Prelude.{◌≡◌, ℕ, ◌+◌, List, [], ◌∷◌, ◌++◌, take, drop}
use Rattle.box_math.specs.Measures.{sum_over}

-- the sum of a number of each element
abbrev pub total : {A : Type 0} → (A → ℕ) → List A → ℕ
total f [] = 0
total f (x ∷ xs) = f x + total f xs

-- the elements at these positions, in their order
abbrev pub pick : {A : Type 0} → List A → List ℕ → List A
pick xs [] = []
pick xs (at ∷ places) = take 1 (drop at xs) ++ pick xs places

-- two lists of positions have together each of the first ones once
abbrev pub AreParts : List ℕ → List ℕ → ℕ → Type 0
AreParts a b count = (f : ℕ → ℕ) → total f a + total f b ≡ sum_over count f
