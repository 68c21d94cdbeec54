-- The record at the place is that of a layer that may be, and says where the layer stands.
use Rattle.std.proofs.Common.{◌≡◌, ◌∙◌, List, get_or, length, ap, arith, refl, sym}
use Rattle.std.proofs.lemmas.List.{get_or-map, length-map}
use Rattle.catalog_page.specs.Layout.{record_of, records_of}
use Rattle.catalog_page.specs.declared.layer_record.LayerRecord.{LayerRecord}
use Rattle.live_layers.specs.Located.{located_by}
use Rattle.live_layers.proofs.LocateLemmas.{can_be_root, dims_fit, fanout_fits, located_here}
use Rattle.live_layers.proofs.layers.Layers.locate.Goals as goal

pub returns-clause-dims : goal.returns-clause-dims
returns-clause-dims g c =
    let kept = c.args.self.now in
    let items = kept.records.items in
    let place = c.args.place in
    let r = c.index-deref-place.result in
    let is : r ≡ get_or items place r = c.index-deref-place.is
    ∙ ap (λ (xs : List LayerRecord). get_or xs place r) c.deref.ensures.0 in
    dims_fit items place r is (omega (arith, c.requires, length-map items record_of)) kept.are_layers

pub invariant_of-fanout : goal.invariant_of-fanout
invariant_of-fanout g c =
    let kept = c.args.self.now in
    let items = kept.records.items in
    let place = c.args.place in
    let r = c.index-deref-place.result in
    let is : r ≡ get_or items place r = c.index-deref-place.is
    ∙ ap (λ (xs : List LayerRecord). get_or xs place r) c.deref.ensures.0 in
    record {
      within = fanout_fits items place r is (omega (arith, c.requires, length-map items record_of))
          kept.are_layers;
    }

pub returns-clause-root : goal.returns-clause-root
returns-clause-root g c =
    let kept = c.args.self.now in
    let items = kept.records.items in
    let place = c.args.place in
    let r = c.index-deref-place.result in
    let is : r ≡ get_or items place r = c.index-deref-place.is
    ∙ ap (λ (xs : List LayerRecord). get_or xs place r) c.deref.ensures.0 in
    can_be_root items place r is (omega (arith, c.requires, length-map items record_of)) kept.are_layers

pub returns-clause-located : goal.returns-clause-located
returns-clause-located g c = λ t name sound finds.
    let kept = c.args.self.now in
    let place = c.args.place in
    let r = c.index-deref-place.result in
    let is : r ≡ get_or kept.records.items place r = c.index-deref-place.is
    ∙ ap (λ (xs : List LayerRecord). get_or xs place r) c.deref.ensures.0 in
    located_here kept t name place sound finds r is _ refl

pub returns-clause-few : goal.returns-clause-few
returns-clause-few g c =
    let items = c.args.self.now.records.items in
    omega (arith, c.deref.ensures.1, ap length c.deref.ensures.0, length-map items record_of)

pub returns-clause-by_record : goal.returns-clause-by_record
returns-clause-by_record g c = λ d.
    let items = c.args.self.now.records.items in
    let place = c.args.place in
    let r = c.index-deref-place.result in
    let is : r ≡ get_or items place r = c.index-deref-place.is
    ∙ ap (λ (xs : List LayerRecord). get_or xs place r) c.deref.ensures.0 in
    let row : record_of r ≡ get_or (records_of c.args.self.now.records) place d = ap record_of is
    ∙ sym (get_or-map record_of items place r d
    (omega (arith, c.requires, length-map items record_of))) in
    ap located_by row
