-- The layers so far are dumped.
use Rattle.std.proofs.Common.{◌≡◌, List, None, map, take}
use Rattle.catalog_page.specs.Layout.{record_of}
use Rattle.page_cache.specs.Cache.{IsHonest, pages}
use Rattle.page_cache.specs.Calls.{AsksUntil}
use Rattle.live_layers.specs.Layers.{LayersStand, Reading, row_of}
use Rattle.live_layers.specs.Listing.{lines_of, lines_of_layers}
use Rattle.live_layers.proofs.layers.dumping.dump_layers.Given as goal

abbrev pub invariant-loop-record : goal.invariant-loop-record
invariant-loop-record g l = record {
  asks : AsksUntil l.fn.cache l.cache None;
  lines : IsHonest l.fn.cache → (hs : List Reading) → map row_of hs ≡ map record_of l.records
      → LayersStand (pages l.fn.cache) hs
      → lines_of l.rows.items ≡ lines_of_layers (take l.record-index hs);
}
