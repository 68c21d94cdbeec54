-- The objects of a leaf on both sides of a key.
use Rattle.std.specs.Prelude.{ℕ, nat_lt, List, [], ◌∷◌, if◌then◌else◌}
use Rattle.bucket_page.specs.Layout.{Entry}

abbrev pub under_key : ℕ → List Entry → List Entry
under_key key [] = []
under_key key (x ∷ xs) = if nat_lt x.0 key then x ∷ under_key key xs else under_key key xs

abbrev pub from_key : ℕ → List Entry → List Entry
from_key key [] = []
from_key key (x ∷ xs) = if nat_lt x.0 key then from_key key xs else x ∷ from_key key xs
