-- The objects that a load gives to a layer, all at once. Our rule, docs/COMMANDS.md.
use Rattle.std.specs.Prelude.{ℕ, Bool, ◌==◌, nat_lt, List, map, min, Option, count_by, filter}
use Rattle.std.specs.List.{list_all, reduce}
use Rattle.std.specs.FinMap.{from_entries}
use Rattle.box_math.specs.Objects.{Object}
use Rattle.plain_table.specs.Boxes.{dims_of, given_bounds, is_ordered}
use Rattle.plain_table.specs.Table.{Layer}
use Rattle.plain_table.specs.declared.boxes.RawBox.{RawBox}

-- the objects of a load: identifiers, boxes as they were given, and tags
abbrev pub GivenObjects : Type 0
GivenObjects = List (ℕ × RawBox × ℕ)

-- whether all their boxes have so many axes
abbrev pub have_dims : ℕ → GivenObjects → Bool
have_dims dims objects = list_all (λ object. dims_of object.1 == dims) objects

-- whether in all their boxes each low is at most its high
abbrev pub are_ordered : GivenObjects → Bool
are_ordered objects = list_all (λ object. is_ordered (dims_of object.1) (given_bounds object.1)) objects

abbrev pub ids_of : GivenObjects → List ℕ
ids_of objects = map (λ object. object.0) objects

-- whether an identifier stands there more than once
abbrev pub is_repeated : List ℕ → ℕ → Bool
is_repeated ids id = nat_lt 1 (count_by (λ other. other == id) ids)

-- the least identifier that stands there more than once, if there is one
abbrev pub least_repeated : List ℕ → Option ℕ
least_repeated ids = reduce min (filter (is_repeated ids) ids)

-- an object with the lows and highs and the tag that it was given
abbrev pub given_object : ℕ × RawBox × ℕ → ℕ × Object
given_object object = (object.0, (given_bounds object.1, object.2))

-- the layer with just these objects
abbrev pub with_objects : Layer → GivenObjects → Layer
with_objects layer objects = record layer { objects = from_entries (map given_object objects) }
