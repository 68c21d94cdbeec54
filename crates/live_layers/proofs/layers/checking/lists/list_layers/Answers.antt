-- Each layer in turn.
use Rattle.std.proofs.Common.{◌<◌, List, None, get_or, length, map, take, sym, subst, arith}
use Rattle.std.proofs.lemmas.List.{take_all}
use Rattle.catalog_page.specs.Layout.{Record, record_of}
use Rattle.catalog_page.specs.declared.layer_record.LayerRecord.{LayerRecord}
use Rattle.page_cache.specs.Cache.{given, pages, version_of}
use Rattle.page_cache.specs.Calls.{asks_and_refuses, asks_in_turn}
use Rattle.page_file.specs.Fault.{IsOfDevice}
use Rattle.live_layers.specs.Checked.{AddsLayers}
use Rattle.live_layers.specs.Layers.{root_of}
use Rattle.live_layers.proofs.CheckLemmas.{adds_in, adds_more, allowed_here, among_records, comes_in_same}
use Rattle.live_layers.proofs.CheckLemmas.{records_more, row_here, stands_here}
use Rattle.live_layers.proofs.FindLemmas.{no_reading}
use Rattle.live_layers.proofs.LocateLemmas.{dims_fit}
use Rattle.live_layers.proofs.Results.{the_err}
use Rattle.live_layers.proofs.layers.checking.lists.list_layers.Goals as goal

pub list_layer-requires : goal.list_layer-requires
list_layer-requires g c =
    dims_fit c.args.records.now c.loop-record.record-index c.record-item.result c.record-item.is
    c.loop-record-test.true c.requires

pub returns-in_err-list_layer-clause-asks : goal.returns-in_err-list_layer-clause-asks
returns-in_err-list_layer-clause-asks g c =
    asks_and_refuses c.args.cache.now c.loop-record.cache c.list_layer.new.cache
    c.in_err-list_layer.field-0.0 c.from_residual.result c.from_residual.ensures.1
    c.loop-record.invariant.asks c.in_err-list_layer.ensures.asks

pub returns-in_err-list_layer-clause-stands : goal.returns-in_err-list_layer-clause-stands
returns-in_err-list_layer-clause-stands g c = λ honest hs rows stand allowed.
    let asks = c.loop-record.invariant.asks in
    let items = c.args.records.now in
    let i = c.loop-record.record-index in
    let r = c.record-item.result in
    let lt : i < length items = c.loop-record-test.true in
    the_err c.from_residual.result c.in_err-list_layer.field-0.0 IsOfDevice c.from_residual.ensures.1
    (c.in_err-list_layer.ensures.stands (asks.gate.honest.0 honest) (get_or hs i no_reading)
    (row_here items hs rows i r lt c.record-item.is)
    (stands_here items hs rows i r lt c.record-item.is (pages c.args.cache.now) (pages c.loop-record.cache)
    (asks.map.pages_stay honest) stand)
    (allowed_here items hs rows i r lt c.record-item.is (version_of c.args.cache.now)
    (version_of c.loop-record.cache) (asks.map.version honest) allowed))

pub loop-record-preserved : goal.loop-record-preserved
loop-record-preserved g c =
    let inv = c.loop-record.invariant in
    let old = c.args.cache.now in
    let mid = c.loop-record.cache in
    let items = c.args.records.now in
    let i = c.loop-record.record-index in
    let r = c.record-item.result in
    let more = records_more items i r c.loop-record-test.true c.record-item.is in
    record {
      asks = asks_in_turn old mid c.list_layer.new.cache None inv.asks c.in_ok-list_layer.ensures.asks;
      layers = λ sound.
          subst (λ (rs : List Record). AddsLayers (pages old) (version_of old) rs c.args.found.now.items
          c.list_layer.new.found.items) (sym more)
          (adds_more (pages old) (version_of old) (map record_of (take i items)) (record_of r) c.args.found.now.items
          c.loop-record.found.items c.list_layer.new.found.items (inv.layers sound)
          (adds_in (pages old) (pages mid) (version_of old) (version_of mid) (record_of r)
          c.loop-record.found.items c.list_layer.new.found.items (inv.asks.map.pages_stay sound.honest)
          (inv.asks.map.version sound.honest)
          (c.in_ok-list_layer.ensures.layer (inv.asks.map.sound.0 sound))));
      looks = omega (arith, inv.looks, inv.asks.map.next, c.in_ok-list_layer.ensures.looks);
    }

pub returns-clause-layers : goal.returns-clause-layers
returns-clause-layers g c = λ sound.
    let items = c.args.records.now in
    subst (λ (rs : List LayerRecord). AddsLayers (pages c.args.cache.now) (version_of c.args.cache.now) (map record_of rs)
    c.args.found.now.items c.loop-record.found.items)
    (take_all c.loop-record.record-index items c.loop-record-test.false)
    (c.loop-record.invariant.layers sound)

pub returns-in_err-list_layer-clause-damage : goal.returns-in_err-list_layer-clause-damage
returns-in_err-list_layer-clause-damage g c = λ honest.
    let asks = c.loop-record.invariant.asks in
    let old = given c.args.cache.now in
    let items = c.args.records.now in
    let r = c.record-item.result in
    the_err c.from_residual.result c.in_err-list_layer.field-0.0
    _ c.from_residual.ensures.1
    (λ n is. (
      record_of r,
      among_records items c.loop-record.record-index r c.loop-record-test.true c.record-item.is,
      comes_in_same r.dims (given c.loop-record.cache) old (root_of (record_of r)) r.ids_root n
          (λ k. asks.map.given_stay honest k)
          (c.in_err-list_layer.ensures.damage (asks.gate.honest.0 honest) n is),
    ))
