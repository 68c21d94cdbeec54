-- Which boxes range queries seek, and which they look into (`Window`, `Point` and `Around` are the
-- intersection, point and enclosure queries of Beckmann, Kriegel, Schneider and Seeger 1990; `Inside` is our
-- rule, docs/COMMANDS.md; the search is Guttman's, 1984).
use Rattle.std.specs.Prelude.{ℕ, Bool}
use Rattle.box_math.specs.Bounds.{Bounds, holds_test, meets_test, within_test}
use Rattle.box_math.specs.declared.query.Query.{Query}
use Rattle.box_math.specs.declared.query.Query.TheVariants.{Window, Inside, Around, Point}

-- whether a query seeks this box
abbrev pub seeks : {D : ℕ} → Query D → Bounds → Bool
seeks {D} (Window window) b = meets_test D b window
seeks {D} (Inside window) b = within_test D b window
seeks {D} (Around inner) b = within_test D inner b
seeks {D} (Point point) b = holds_test D b point

-- whether it looks into a node with this box: a box within it may be sought
abbrev pub admits : {D : ℕ} → Query D → Bounds → Bool
admits {D} (Window window) b = meets_test D b window
admits {D} (Inside window) b = meets_test D b window
admits {D} (Around inner) b = within_test D inner b
admits {D} (Point point) b = holds_test D b point
