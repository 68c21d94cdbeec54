-- The line that makes the layer, and then those of all its objects.
use Rattle.std.proofs.Common.{◌≡◌, ◌∙◌, ℕ, List, ap, arith}
use Rattle.std.specs.FinMap.{entries}
use Rattle.catalog_page.specs.Layout.{record_of}
use Rattle.page_cache.specs.Cache.{pages}
use Rattle.page_file.specs.Fault.{IsOfDevice}
use Rattle.plain_table.specs.Listings.DumpLine.{CreateLine}
use Rattle.live_layers.proofs.CheckLemmas.{layer_of_row}
use Rattle.live_layers.proofs.DumpLemmas.{layer_dumped}
use Rattle.live_layers.proofs.Results.{the_err}
use Rattle.live_layers.proofs.layers.dumping.dump_layer.Goals as goal

pub returns-in_err-objects-clause-stands : goal.returns-in_err-objects-clause-stands
returns-in_err-objects-clause-stands g c = λ honest h row stands.
    let r = record_of c.args.layer.now in
    the_err c.from_residual-in_err-objects.result c.in_err-objects.field-0.0 IsOfDevice
    c.from_residual-in_err-objects.ensures.1
    (c.in_err-objects.ensures.stands honest r.fanout r.ids_root h.pages h.layer.objects
    (layer_of_row 2 (pages c.args.cache.now) r h row c.if-layer-eq2.true stands))

pub returns-in_err-objects-2-clause-stands : goal.returns-in_err-objects-2-clause-stands
returns-in_err-objects-2-clause-stands g c = λ honest h row stands.
    let r = record_of c.args.layer.now in
    let axes : r.dims ≡ 3 = omega (arith, c.requires, c.if-layer-eq2.false) in
    the_err c.from_residual-in_err-objects-2.result c.in_err-objects-2.field-0.0 IsOfDevice
    c.from_residual-in_err-objects-2.ensures.1
    (c.in_err-objects-2.ensures.stands honest r.fanout r.ids_root h.pages h.layer.objects
    (layer_of_row 3 (pages c.args.cache.now) r h row axes stands))

pub returns-in_ok-add_objects-clause-rows : goal.returns-in_ok-add_objects-clause-rows
returns-in_ok-add_objects-clause-rows g c = λ honest h row stands.
    let r = record_of c.args.layer.now in
    let old = pages c.args.cache.now in
    let found : c.in_ok-objects.objects.items ≡ entries h.layer.objects =
    c.in_ok-objects.ensures.rows honest r.fanout r.ids_root h.pages h.layer.objects
    (layer_of_row 2 old r h row c.if-layer-eq2.true stands) in
    let same : c.deref-then-layer-eq2.result.now ≡ c.in_ok-objects.objects.items =
    c.deref-then-layer-eq2.ensures.value in
    layer_dumped old c.args.layer.now h row stands c.args.rows.now.items c.push.new.self.items
    c.add_objects.new.rows.items _ c.deref-then-layer-eq2.result.now c.in_ok-push.ensures.items
    (ap (λ (name : List ℕ). CreateLine name r.dims r.fanout) (c.name_of.ensures ∙ c.deref.ensures.0))
    (same ∙ found) c.in_ok-add_objects.ensures

pub returns-in_ok-add_objects-2-clause-rows : goal.returns-in_ok-add_objects-2-clause-rows
returns-in_ok-add_objects-2-clause-rows g c = λ honest h row stands.
    let r = record_of c.args.layer.now in
    let old = pages c.args.cache.now in
    let axes : r.dims ≡ 3 = omega (arith, c.requires, c.if-layer-eq2.false) in
    let found : c.in_ok-objects-2.objects.items ≡ entries h.layer.objects =
    c.in_ok-objects-2.ensures.rows honest r.fanout r.ids_root h.pages h.layer.objects
    (layer_of_row 3 old r h row axes stands) in
    let same : c.deref-else-layer-eq2.result.now ≡ c.in_ok-objects-2.objects.items =
    c.deref-else-layer-eq2.ensures.value in
    layer_dumped old c.args.layer.now h row stands c.args.rows.now.items c.push.new.self.items
    c.add_objects-else-layer-eq2.new.rows.items _ c.deref-else-layer-eq2.result.now c.in_ok-push.ensures.items
    (ap (λ (name : List ℕ). CreateLine name r.dims r.fanout) (c.name_of.ensures ∙ c.deref.ensures.0))
    (same ∙ found) c.in_ok-add_objects-2.ensures
