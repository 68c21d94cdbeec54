-- The layers so far are listed.
use Rattle.std.proofs.Common.{◌+◌, ◌*◌, ◌≤◌, None, map, take}
use Rattle.catalog_page.specs.Layout.{record_of}
use Rattle.page_cache.specs.Cache.{IsPageMap, looks_of, next_of, pages, version_of}
use Rattle.page_cache.specs.Calls.{AsksUntil}
use Rattle.live_layers.specs.Checked.{AddsLayers}
use Rattle.live_layers.proofs.layers.checking.lists.list_layers.Given as goal

abbrev pub invariant-loop-record : goal.invariant-loop-record
invariant-loop-record g l = record {
  asks : AsksUntil l.fn.cache l.cache None;
  layers : IsPageMap l.fn.cache
      → AddsLayers (pages l.fn.cache) (version_of l.fn.cache) (map record_of (take l.record-index l.records))
      l.fn.found.items l.found.items;
  looks : looks_of l.cache ≤ looks_of l.fn.cache + 2 * (l.record-index * next_of l.fn.cache)
      + 2 * l.record-index;
}
