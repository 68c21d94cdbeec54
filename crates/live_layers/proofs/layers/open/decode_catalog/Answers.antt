-- The page of the catalog is live.
use Rattle.std.proofs.Common.{◌∙◌, sym, ap}
use Rattle.std.specs.Prelude.{option_and_then}
use Rattle.catalog_page.specs.Layout.{records_at}
use Rattle.page_cache.specs.Laws.{the_catalog_is_live}
use Rattle.live_layers.proofs.layers.open.decode_catalog.Goals as goal

pub returns-clause-spelled : goal.returns-clause-spelled
returns-clause-spelled g c = λ honest.
    c.decode.ensures.spelled
    ∙ sym (ap (option_and_then records_at)
    (c.in_ok-page.ensures.bytes honest (the_catalog_is_live c.args.cache.now)))
