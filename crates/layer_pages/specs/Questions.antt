-- What searches of a layer's tree answer, said of the layer's objects (our rule, docs/COMMANDS.md).
use Rattle.std.specs.Prelude.{ℕ, Bool, ◌&&◌, List, Option, ℤ, take}
use Rattle.std.specs.FinMap.{entries}
use Rattle.std.specs.List.{filter}
use Rattle.box_math.specs.Bounds.{Bounds}
use Rattle.box_math.specs.Nearest.{by_distance}
use Rattle.box_math.specs.Objects.{Object, bounds_of, has_tag}
use Rattle.layer_pages.specs.Layers.{Objects}

-- the objects whose boxes pass the test and that have the tag that is asked for, if one is, by identifier
abbrev pub objects_that : (Bounds → Bool) → Option ℕ → Objects → List (ℕ × Object)
objects_that test asked objects =
    filter (λ object. test (bounds_of object.1) && has_tag asked object.1) (entries objects)

-- the k objects nearest to a point, or all of fewer, by distance and then by identifier
abbrev pub nearest_objects : ℕ → ℕ → List ℤ → Objects → List (ℕ × ℕ)
nearest_objects dims k point objects = take k (by_distance dims point (entries objects))
