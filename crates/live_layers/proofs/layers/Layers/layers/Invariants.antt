-- The records so far are listed.
use Rattle.std.proofs.Common.{◌≡◌, length, map, take}
use Rattle.catalog_page.specs.Layout.{record_of}
use Rattle.plain_table.specs.Answers.{line_of_layer}
use Rattle.live_layers.specs.Listing.{record_line}
use Rattle.live_layers.proofs.layers.Layers.layers.Given as goal

abbrev pub invariant-loop-record : goal.invariant-loop-record
invariant-loop-record g l = record {
  lines : map line_of_layer l.all.items ≡ map record_line
      (map record_of (take l.record-index l.record-items));
  many : length l.all.items ≡ l.record-index;
}
