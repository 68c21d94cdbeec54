-- The least box of positions, axis by axis. Our rule, docs/COMMANDS.md.
use Rattle.std.specs.Prelude.{[], ◌∷◌, Option, Some, None}
use Rattle.std.specs.Int.{int_min, int_max}
use Rattle.plain_table.specs.declared.boxes.RawBox.{RawBox}
use Rattle.plain_table.specs.declared.boxes.RawBox.TheVariants as raw
use Rattle.box_import.specs.declared.extent.Axes.{Axes}
use Rattle.box_import.specs.declared.extent.Axes.TheVariants.{Two, Three}
use Rattle.box_import.specs.declared.extent.Ranges.{Ranges}
use Rattle.box_import.specs.declared.extent.Span.{Span}

-- the least range of two
abbrev pub join : Span → Span → Span
join a b = record { low = int_min a.low b.low; high = int_max a.high b.high }

-- axis by axis
abbrev pub join_ranges : Ranges → Ranges → Ranges
join_ranges a b = record { x = join a.x b.x; y = join a.y b.y; z = join a.z b.z }

-- the ranges of the positions so far, and of one more
abbrev pub and_position : Option Ranges → Ranges → Ranges
and_position None position = position
and_position (Some ranges) position = join_ranges ranges position

-- the box of ranges, of which the last is looked at on three axes alone
abbrev pub bounds_of : Axes → Ranges → RawBox
bounds_of Two r = raw.Two (r.x.low ∷ r.y.low ∷ []) (r.x.high ∷ r.y.high ∷ [])
bounds_of Three r = raw.Three (r.x.low ∷ r.y.low ∷ r.z.low ∷ []) (r.x.high ∷ r.y.high ∷ r.z.high ∷ [])
