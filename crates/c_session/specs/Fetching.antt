-- Rows that go out into an array.
use Rattle.std.specs.Prelude.{ℕ, ◌≡◌, ◌-◌, ◌++◌, List, map, take, drop, length, min}

-- from the given one on, as many as there is room for; the rest of the array stays
pub record Fetches {T U : Type 0} (as_c : T → U) (rows : List T) (from : ℕ) (old new : List U)
    (count : ℕ) : Type 0 where
  pub count_is : count ≡ min (length rows - from) (length old)
  pub written : new ≡ map as_c (take count (drop from rows)) ++ drop count old
