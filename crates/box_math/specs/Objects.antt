-- What is kept of an object beside its identifier (our rule, docs/COMMANDS.md): whatever more is kept of it
-- one day is added here.
use Rattle.std.specs.Prelude.{ℕ, ◌==◌, Bool, true, Option, None, Some}
use Rattle.box_math.specs.Bounds.{Bounds}

-- its box, and its tag, a number of 32 bits by which range queries choose
abbrev pub Object : Type 0
Object = Bounds × ℕ

abbrev pub bounds_of : Object → Bounds
bounds_of object = object.0

abbrev pub tag_of : Object → ℕ
tag_of object = object.1

-- whether an object has the tag that is asked for: each has it where none is
abbrev pub has_tag : Option ℕ → Object → Bool
has_tag None object = true
has_tag (Some tag) object = tag_of object == tag
