-- The count of the record at the place.
use Rattle.std.proofs.Common.{◌≡◌, ◌∙◌, List, get_or, ap, arith, sym}
use Rattle.std.proofs.lemmas.List.{get_or-map, length-map}
use Rattle.catalog_page.specs.Layout.{Record, record_of, records_of}
use Rattle.catalog_page.specs.declared.layer_record.LayerRecord.{LayerRecord}
use Rattle.live_layers.proofs.layers.Layers.count_at.Goals as goal

pub returns : goal.returns
returns g c = λ d.
    let items = c.args.self.now.records.items in
    let place = c.args.place in
    let r = c.index-deref-place.result in
    let row : record_of (get_or items place r) ≡ get_or (records_of c.args.self.now.records) place d =
    sym (get_or-map record_of items place r d (omega (arith, c.requires, length-map items record_of))) in
    ap (λ (xs : List LayerRecord). (get_or xs place r).count) c.deref.ensures.0
    ∙ ap (λ (x : Record). x.count) row
