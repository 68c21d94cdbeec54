-- What stands in the first places of a page, one after the other.
use Rattle.std.specs.Prelude.{ℕ, List, map}
use Rattle.std.specs.List.{range_with_len}

-- the elements of the first places, where this is the element of each
unfoldable pub first_places : {X : Type 0} → (ℕ → X) → ℕ → List X
first_places at count = map at (range_with_len 0 count)
