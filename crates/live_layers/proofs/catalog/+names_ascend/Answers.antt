-- The goals of `names_ascend` that are proved by hand.
use Rattle.std.proofs.Common.{◌∙◌, ◌&&◌, Bool, map, refl, sym, ap}
use Rattle.catalog_page.specs.Layout.{record_of}
use Rattle.live_layers.specs.Catalog.{names_ascend}
use Rattle.live_layers.proofs.CatalogLemmas.{ascend_from}
use Rattle.live_layers.proofs.catalog.+names_ascend.Goals as goal

pub returns-then-is_first : goal.returns-then-is_first
returns-then-is_first n c =
    sym (ap (λ (b : Bool). b && c.names_ascend.result) c.if-is_first.true)
    ∙ ascend_from c.args.records.now c.in-Some.rest.now c.in-Some.first.now c.is_below_all-is_first.result
    c.names_ascend.result c.in-Some.ensures.cases.0 c.is_below_all-is_first.ensures c.names_ascend.ensures

pub returns-else-is_first : goal.returns-else-is_first
returns-else-is_first n c =
    let others = names_ascend (map record_of c.in-Some.rest.now) in
    c.if-is_first.false ∙ sym (ap (λ (b : Bool). b && others) c.if-is_first.false)
    ∙ ascend_from c.args.records.now c.in-Some.rest.now c.in-Some.first.now c.is_below_all-is_first.result
    others c.in-Some.ensures.cases.0 c.is_below_all-is_first.ensures refl
