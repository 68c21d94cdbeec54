-- Objects in the order of their distance from a point (the distance is MINDIST of Roussopoulos, Kelley and
-- Vincent 1995; the order of ties is our rule, docs/COMMANDS.md). An object is an identifier with what is
-- kept of it.
use Rattle.std.specs.Prelude.{ℕ, ℤ, Bool, ◌||◌, ◌&&◌, ◌==◌, nat_lt, nat_le, List, [], ◌∷◌, map, if◌then◌else◌}
use Rattle.box_math.specs.Measures.{point_dist2_of}
use Rattle.box_math.specs.Objects.{Object, bounds_of}

-- whether an object, by its identifier and its squared distance, comes before another or is the same: the
-- nearer one does, and of equal distances the lesser identifier
abbrev pub comes_first : ℕ × ℕ → ℕ × ℕ → Bool
comes_first a b = nat_lt a.1 b.1 || (a.1 == b.1 && nat_le a.0 b.0)

-- some objects in order and one more, in its place
abbrev pub put_nearest_first : ℕ × ℕ → List (ℕ × ℕ) → List (ℕ × ℕ)
put_nearest_first x [] = x ∷ []
put_nearest_first x (y ∷ ys) = if comes_first x y then x ∷ y ∷ ys else y ∷ put_nearest_first x ys

-- the objects in order
abbrev pub nearest_first : List (ℕ × ℕ) → List (ℕ × ℕ)
nearest_first [] = []
nearest_first (x ∷ xs) = put_nearest_first x (nearest_first xs)

-- the identifier of an object with the squared distance of its box from the point
abbrev pub with_distance : ℕ → List ℤ → ℕ × Object → ℕ × ℕ
with_distance dims point object = (object.0, point_dist2_of dims (bounds_of object.1) point)

-- the same of all objects, in order
abbrev pub by_distance : ℕ → List ℤ → List (ℕ × Object) → List (ℕ × ℕ)
by_distance dims point objects = nearest_first (map (with_distance dims point) objects)
