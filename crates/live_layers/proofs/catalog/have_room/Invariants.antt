-- What holds at each turn of the loop of `have_room`.
use Rattle.std.proofs.Common.{◌≡◌, ◌≤◌, map, take}
use Rattle.catalog_page.specs.Layout.{record_of}
use Rattle.live_layers.specs.Catalog.{objects_named}
use Rattle.plain_table.specs.Table.{most_objects}
use Rattle.live_layers.proofs.catalog.have_room.Given as goal

abbrev pub invariant-loop-record : goal.invariant-loop-record
invariant-loop-record l = (l.total ≡ objects_named (map record_of (take l.record-index l.records)))
    × (l.total ≤ most_objects)
