-- The records of an image are those that were read.
use Rattle.std.proofs.Common.{◌∙◌, List, map, ap}
use Rattle.catalog_page.specs.Layout.{record_of, records_of}
use Rattle.catalog_page.specs.declared.layer_record.LayerRecord.{LayerRecord}
use Rattle.page_cache.specs.Cache.{next_of}
use Rattle.page_cache.specs.Laws.{numbers_are_few}
use Rattle.live_layers.specs.Catalog.{objects_named}
use Rattle.live_layers.proofs.CatalogGood.{layers_may_be}
use Rattle.live_layers.proofs.ClosingLemmas.{trees_found}
use Rattle.live_layers.proofs.OpenLemmas.{no_damage, opened_sound}
use Rattle.live_layers.proofs.layers.Layers.open.Goals as goal

pub invariant_of-result : goal.invariant_of-result
invariant_of-result g c =
    record {
      are_layers =
          layers_may_be (next_of c.args.cache) (records_of c.in-Ok.records) (numbers_are_few c.args.cache).1
          c.in-Ok.ensures.good;
    }

pub returns-in-Ok-clause-image : goal.returns-in-Ok-clause-image
returns-in-Ok-clause-image g c = λ t blocks honest lies image.
    opened_sound c.args.cache blocks t lies image _ honest c.in-Ok.ensures.asks.map
    (c.in-Ok.ensures.catalog honest)
    (c.count_of-object_count.ensures
    ∙ ap (λ (xs : List LayerRecord). objects_named (map record_of xs)) c.deref.ensures.0)

pub returns-in-Err-clause-not_refused : goal.returns-in-Err-clause-not_refused
returns-in-Err-clause-not_refused g c =
    λ t blocks honest lies image. no_damage c.args.cache blocks t lies image c.in-Err.fault
    (c.in-Err.ensures.damaged honest)

pub returns-in-Ok-clause-trees : goal.returns-in-Ok-clause-trees
returns-in-Ok-clause-trees g c = λ blocks honest lies.
    trees_found c.args.cache c.read_catalog.new.cache (records_of c.in-Ok.records) blocks honest lies
    c.in-Ok.ensures.asks.map (c.in-Ok.ensures.catalog honest)
