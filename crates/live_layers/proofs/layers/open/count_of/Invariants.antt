-- The objects of the records so far are counted.
use Rattle.std.proofs.Common.{◌≡◌, map, take}
use Rattle.catalog_page.specs.Layout.{record_of}
use Rattle.live_layers.specs.Catalog.{objects_named}
use Rattle.live_layers.proofs.layers.open.count_of.Given as goal

abbrev pub invariant-loop-record : goal.invariant-loop-record
invariant-loop-record l = l.total ≡ objects_named (map record_of (take l.record-index l.records))
