-- Each layer in turn.
use Rattle.std.proofs.Common.{◌≡◌, ◌∙◌, ◌<◌, ◌≤◌, List, None, ◌++◌, get_or, length, sym, ap, arith}
use Rattle.std.proofs.lemmas.List.{length-map, take_all}
use Rattle.catalog_page.specs.Layout.{record_of}
use Rattle.page_cache.specs.Cache.{pages}
use Rattle.page_cache.specs.Calls.{asks_and_refuses, asks_in_turn}
use Rattle.page_file.specs.Fault.{IsOfDevice}
use Rattle.plain_table.specs.Listings.{DumpLine, dump_lines}
use Rattle.live_layers.specs.Layers.{Reading, entry_of, row_of}
use Rattle.live_layers.specs.Listing.{lines_of, lines_of_layers}
use Rattle.live_layers.proofs.CheckLemmas.{in_readings, row_here, stands_here}
use Rattle.live_layers.proofs.DumpLemmas.{layers_dumped}
use Rattle.live_layers.proofs.FindLemmas.{no_reading}
use Rattle.live_layers.proofs.LocateLemmas.{dims_fit}
use Rattle.live_layers.proofs.Results.{the_err}
use Rattle.live_layers.proofs.layers.dumping.dump_layers.Goals as goal

pub dump_layer-requires : goal.dump_layer-requires
dump_layer-requires g c =
    dims_fit c.args.records.now c.loop-record.record-index c.record-item.result c.record-item.is
    c.loop-record-test.true c.requires

pub returns-in_err-dump_layer-clause-asks : goal.returns-in_err-dump_layer-clause-asks
returns-in_err-dump_layer-clause-asks g c =
    asks_and_refuses c.args.cache.now c.loop-record.cache c.dump_layer.new.cache
    c.in_err-dump_layer.field-0.0 c.from_residual.result c.from_residual.ensures.1
    c.loop-record.invariant.asks c.in_err-dump_layer.ensures.asks

pub returns-in_err-dump_layer-clause-stands : goal.returns-in_err-dump_layer-clause-stands
returns-in_err-dump_layer-clause-stands g c = λ honest hs rows stand.
    let asks = c.loop-record.invariant.asks in
    let items = c.args.records.now in
    let i = c.loop-record.record-index in
    let r = c.record-item.result in
    let lt : i < length items = c.loop-record-test.true in
    the_err c.from_residual.result c.in_err-dump_layer.field-0.0 IsOfDevice c.from_residual.ensures.1
    (c.in_err-dump_layer.ensures.stands (asks.gate.honest.0 honest) (get_or hs i no_reading)
    (row_here items hs rows i r lt c.record-item.is)
    (stands_here items hs rows i r lt c.record-item.is (pages c.args.cache.now) (pages c.loop-record.cache)
    (asks.map.pages_stay honest) stand))

pub loop-record-preserved : goal.loop-record-preserved
loop-record-preserved g c =
    let inv = c.loop-record.invariant in
    let old = c.args.cache.now in
    let mid = c.loop-record.cache in
    let items = c.args.records.now in
    let i = c.loop-record.record-index in
    let r = c.record-item.result in
    let lt : i < length items = c.loop-record-test.true in
    record {
      asks = asks_in_turn old mid c.dump_layer.new.cache None inv.asks c.in_ok-dump_layer.ensures.asks;
      lines = λ honest hs rows stand.
          let h : Reading = get_or hs i no_reading in
          let more : lines_of c.dump_layer.new.rows.items ≡ lines_of c.loop-record.rows.items
          ++ dump_lines (entry_of h) =
          c.in_ok-dump_layer.ensures.rows (inv.asks.gate.honest.0 honest) h
          (row_here items hs rows i r lt c.record-item.is)
          (stands_here items hs rows i r lt c.record-item.is (pages old) (pages mid)
          (inv.asks.map.pages_stay honest) stand) in
          more ∙ ap (λ (lines : List DumpLine). lines ++ dump_lines (entry_of h))
          (inv.lines honest hs rows stand)
          ∙ sym (layers_dumped hs i (in_readings items hs rows i r lt c.record-item.is));
    }

pub returns-clause-rows : goal.returns-clause-rows
returns-clause-rows g c = λ honest hs rows stand.
    let i = c.loop-record.record-index in
    let all : length hs ≤ i =
    omega (
      arith,
      c.loop-record-test.false,
      ap length rows,
      length-map hs row_of,
      length-map c.args.records.now record_of,
    ) in
    c.loop-record.invariant.lines honest hs rows stand ∙ ap lines_of_layers (take_all i hs all)
