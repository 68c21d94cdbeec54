-- Parts of answers. Our rule, docs/LIBRARY.md.
use Rattle.std.specs.Prelude.{ℕ, ◌≡◌, ◌≤◌, ◌<◌, ◌⊎◌, List, Option, None, Some, All, Any, filter, nat_lt, ◌==◌, [], ◌∷◌, ⊤}
use Rattle.plain_table.specs.declared.boxes.AnyBox.{AnyBox}

-- the objects whose identifiers are greater than that, in their order
abbrev pub objects_after : ℕ → List (ℕ × AnyBox × ℕ) → List (ℕ × AnyBox × ℕ)
objects_after after objects = filter (λ object. nat_lt after object.0) objects

-- those that have the tag
abbrev pub objects_with : ℕ → List (ℕ × AnyBox × ℕ) → List (ℕ × AnyBox × ℕ)
objects_with tag objects = filter (λ object. object.2 == tag) objects

-- It is the greatest identifier of the objects that is at most that; or there is none.
abbrev pub IsLast : ℕ → List (ℕ × AnyBox × ℕ) → Option ℕ → Type 0
IsLast most objects None = All (λ object. most < object.0) objects
IsLast most objects (Some id) = (id ≤ most) × Any (λ object. object.0 ≡ id) objects
    × All (λ object. (most < object.0) ⊎ (object.0 ≤ id)) objects

-- each identifier is greater than that
abbrev pub AreAbove : ℕ → List (ℕ × AnyBox × ℕ) → Type 0
AreAbove id [] = ⊤
AreAbove id (object ∷ objects) = (id < object.0) × AreAbove id objects

-- each object has a lesser identifier than all behind it
abbrev pub IsAscending : List (ℕ × AnyBox × ℕ) → Type 0
IsAscending [] = ⊤
IsAscending (object ∷ objects) = AreAbove object.0 objects × IsAscending objects
