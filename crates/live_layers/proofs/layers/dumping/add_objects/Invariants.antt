-- The rows of the objects so far are appended.
use Rattle.std.proofs.Common.{◌≡◌, ◌++◌, map, take}
use Rattle.plain_table.specs.Listings.DumpLine.{InsertLine}
use Rattle.live_layers.specs.Listing.{lines_of}
use Rattle.live_layers.proofs.layers.dumping.add_objects.Given as goal

abbrev pub invariant-loop-id : goal.invariant-loop-id
invariant-loop-id g l = lines_of l.rows.items ≡ lines_of l.fn.rows.items
    ++ map (λ object. InsertLine l.name.items object.0 object.1) (take l.id-index l.objects)
