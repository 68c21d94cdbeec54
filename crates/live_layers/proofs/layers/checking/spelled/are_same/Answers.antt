-- Lists are not the same where one of their records is not.
use Rattle.std.proofs.Common.{◌≡◌, ◌∙◌, ◌<◌, Bool, true, false, List, length, get_or, sym, ap, subst, arith}
use Rattle.std.specs.Prelude.{IsTrue}
use Rattle.std.proofs.lemmas.List.{get_or-map}
use Rattle.catalog_page.specs.Layout.{Record, record_of}
use Rattle.live_layers.proofs.layers.checking.spelled.are_same.Goals as goal

pub returns-then-not-is_same : goal.returns-then-not-is_same
returns-then-not-is_same c =
    let records = c.args.records.now in
    let others = c.args.others.now in
    let here = c.loop-place.place in
    let x = c.index-records-place.result in
    let y = c.index-others-place.result in
    let within : here < length records = c.loop-place-test.true in
    let beside : here < length others = omega (arith, within, c.if-records-others.false) in (
      λ (never : false ≡ true). cc,
      λ same.
          let alike : record_of x ≡ record_of y =
          ap record_of c.index-records-place.is
          ∙ sym (get_or-map record_of records here x (record_of x) within)
          ∙ ap (λ (rs : List Record). get_or rs here (record_of x)) same
          ∙ get_or-map record_of others here y (record_of x) beside
          ∙ ap record_of (sym c.index-others-place.is) in
          subst (λ (b : Bool). IsTrue b) c.if-not-is_same.true (c.is_same.ensures.1 alike),
    )
