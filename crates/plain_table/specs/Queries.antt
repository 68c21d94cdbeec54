-- Which boxes range queries seek: as commands give them, and in a layer of so many axes. `Window`, `Point`
-- and `Around` are the intersection, point and enclosure queries of Beckmann, Kriegel, Schneider and Seeger
-- 1990; `Inside` is our rule, docs/COMMANDS.md.
use Rattle.std.specs.Prelude.{ℕ, Bool, ◌&&◌, Option}
use Rattle.box_math.specs.Bounds.{Bounds}
use Rattle.box_math.specs.Objects.{Object, bounds_of, has_tag}
use Rattle.box_math.specs.Queries.{seeks}
use Rattle.box_math.specs.declared.query.Query.{Query}
use Rattle.box_math.specs.declared.query.Query.TheVariants as query
use Rattle.plain_table.specs.Boxes.{given_bounds, given_point}
use Rattle.plain_table.specs.declared.queries.RawQuery.{RawQuery}
use Rattle.plain_table.specs.declared.queries.RawQuery.TheVariants.{Window, Inside, Around, Point}

-- a query whose axes are known, as it was given
abbrev pub given_query : {D : ℕ} → RawQuery → Query D
given_query (Window window) = query.Window (given_bounds window)
given_query (Inside window) = query.Inside (given_bounds window)
given_query (Around inner) = query.Around (given_bounds inner)
given_query (Point point) = query.Point (given_point point)

-- whether it seeks an object with this box, in a layer of so many axes
abbrev pub is_sought : ℕ → RawQuery → Bounds → Bool
is_sought dims query b = seeks {D = dims} (given_query query) b

-- whether a query, with the tag that it asks for, seeks the object
abbrev pub is_wanted : ℕ → RawQuery → Option ℕ → Object → Bool
is_wanted dims query tag object = is_sought dims query (bounds_of object) && has_tag tag object
