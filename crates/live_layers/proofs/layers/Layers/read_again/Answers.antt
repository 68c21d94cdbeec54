-- The catalog that is read again spells the records that the layers have.
use Rattle.std.proofs.Common.{◌∙◌, List, map, ap, inl, refl}
use Rattle.catalog_page.specs.Layout.{record_of, records_of}
use Rattle.catalog_page.specs.declared.layer_record.LayerRecord.{LayerRecord}
use Rattle.page_cache.specs.Cache.{next_of}
use Rattle.page_cache.specs.Laws.{numbers_are_few, the_map_is_kept_in_turn}
use Rattle.live_layers.specs.Catalog.{objects_named}
use Rattle.live_layers.proofs.CatalogGood.{layers_may_be}
use Rattle.live_layers.proofs.ClosingLemmas.{catalog_before, read_sound, trees_kept, trees_read_again}
use Rattle.live_layers.proofs.KeepLemmas.{kept_catalog, sound_kept}
use Rattle.live_layers.proofs.Results.{the_err}
use Rattle.live_layers.proofs.layers.Layers.read_again.Goals as goal

pub returns-in_err-check_again-clause-sound : goal.returns-in_err-check_again-clause-sound
returns-in_err-check_again-clause-sound g c =
    λ t sound written. sound_kept c.args.self.now _ t (c.check_again.ensures.map sound.map.honest) refl refl
    (λ w. w) sound

pub returns-in_err-records-clause-sound : goal.returns-in_err-records-clause-sound
returns-in_err-records-clause-sound g c = λ t sound written.
    let old = c.args.self.now in
    let keeps =
    the_map_is_kept_in_turn old.cache c.check_again.new.self c.read_catalog.new.cache
    c.check_again.ensures.gate.honest.0 (c.check_again.ensures.map sound.map.honest)
    c.read_catalog.ensures.asks.map in
    sound_kept old _ t keeps refl refl (λ w. w) sound

pub invariant_of-self-2 : goal.invariant_of-self-2
invariant_of-self-2 g c =
    record {
      are_layers =
          layers_may_be (next_of c.check_again.new.self) (records_of c.in_ok-records.records)
          (numbers_are_few c.check_again.new.self).1 c.in_ok-records.ensures.good;
    }

pub returns-clause-sound : goal.returns-clause-sound
returns-clause-sound g c = λ t sound written.
    let old = c.args.self.now in
    let mid = c.check_again.new.self in
    let checked = c.check_again.ensures.map sound.map.honest in
    let keeps =
    the_map_is_kept_in_turn old.cache mid c.read_catalog.new.cache c.check_again.ensures.gate.honest.0
    checked c.read_catalog.ensures.asks.map in
    read_sound old _ t sound written keeps
    (catalog_before old.cache mid (records_of c.in_ok-records.records) sound.map.honest checked
    (c.in_ok-records.ensures.catalog (c.check_again.ensures.gate.honest.0 sound.map.honest)))
    (c.count_of-self.ensures
    ∙ ap (λ (xs : List LayerRecord). objects_named (map record_of xs)) c.deref.ensures.0)

pub returns-in_err-check_again-clause-trees : goal.returns-in_err-check_again-clause-trees
returns-in_err-check_again-clause-trees g c = λ t sound written.
    let old = c.args.self.now in
    let rs = records_of old.records in
    trees_kept old.cache c.check_again.new.self rs rs sound.map.honest
    (c.check_again.ensures.map sound.map.honest) refl

pub returns-in_err-records-clause-trees : goal.returns-in_err-records-clause-trees
returns-in_err-records-clause-trees g c = λ t sound written.
    let old = c.args.self.now in
    let rs = records_of old.records in
    trees_kept old.cache c.read_catalog.new.cache rs rs sound.map.honest
    (the_map_is_kept_in_turn old.cache c.check_again.new.self c.read_catalog.new.cache
    c.check_again.ensures.gate.honest.0 (c.check_again.ensures.map sound.map.honest)
    c.read_catalog.ensures.asks.map) refl

pub returns-clause-trees : goal.returns-clause-trees
returns-clause-trees g c = λ t sound written.
    let old = c.args.self.now in
    let mid = c.check_again.new.self in
    let rs = records_of c.in_ok-records.records in
    let checked = c.check_again.ensures.map sound.map.honest in
    let keeps =
    the_map_is_kept_in_turn old.cache mid c.read_catalog.new.cache c.check_again.ensures.gate.honest.0
    checked c.read_catalog.ensures.asks.map in
    trees_read_again old c.read_catalog.new.cache rs t sound written keeps
    (catalog_before old.cache mid rs sound.map.honest checked
    (c.in_ok-records.ensures.catalog (c.check_again.ensures.gate.honest.0 sound.map.honest)))

pub returns-in_err-records-clause-map : goal.returns-in_err-records-clause-map
returns-in_err-records-clause-map g c = λ honest.
    the_map_is_kept_in_turn c.args.self.now.cache c.check_again.new.self c.read_catalog.new.cache
    c.check_again.ensures.gate.honest.0 (c.check_again.ensures.map honest) c.read_catalog.ensures.asks.map

pub returns-clause-map : goal.returns-clause-map
returns-clause-map g c = λ honest.
    the_map_is_kept_in_turn c.args.self.now.cache c.check_again.new.self c.read_catalog.new.cache
    c.check_again.ensures.gate.honest.0 (c.check_again.ensures.map honest) c.read_catalog.ensures.asks.map

pub returns-clause-read : goal.returns-clause-read
returns-clause-read g c = λ honest.
    let there = c.check_again.ensures.gate.honest.0 honest in
    kept_catalog c.check_again.new.self c.read_catalog.new.cache (records_of c.in_ok-records.records) there
    c.read_catalog.ensures.asks.map (c.in_ok-records.ensures.catalog there)

pub returns-in_err-check_again-clause-versions : goal.returns-in_err-check_again-clause-versions
returns-in_err-check_again-clause-versions g c =
    record { version = c.check_again.ensures.gate.version; newest = refl }

pub returns-in_err-records-clause-versions : goal.returns-in_err-records-clause-versions
returns-in_err-records-clause-versions g c =
    let checked = c.check_again.ensures.gate in
    record {
      version = λ honest. c.read_catalog.ensures.asks.gate.version (checked.honest.0 honest)
          ∙ checked.version honest;
      newest = refl;
    }

pub returns-clause-versions : goal.returns-clause-versions
returns-clause-versions g c =
    let checked = c.check_again.ensures.gate in
    record {
      version = λ honest. c.read_catalog.ensures.asks.gate.version (checked.honest.0 honest)
          ∙ checked.version honest;
      newest = refl;
    }

pub returns-in_err-check_again-clause-met : goal.returns-in_err-check_again-clause-met
returns-in_err-check_again-clause-met g c = λ honest.
    the_err c.from_residual.result c.in_err-check_again.field-0.0 _ c.from_residual.ensures.1
    (inl (c.in_err-check_again.ensures.faults honest))

pub returns-in_err-records-clause-met : goal.returns-in_err-records-clause-met
returns-in_err-records-clause-met g c = λ honest.
    the_err c.from_residual-in_err-records.result c.in_err-records.field-0.0 _
    c.from_residual-in_err-records.ensures.1 c.in_err-records.ensures.only
