-- The pages hold the table, the catalog names its layers, and the blocks are those pages.
use Rattle.std.proofs.Common.{◌∷◌, ◌∙◌, refl}
use Rattle.block_device.specs.Moments.{leaves_weaker}
use Rattle.catalog_page.specs.Layout.{records_of}
use Rattle.page_cache.specs.Cache.{blocks_of, device_of}
use Rattle.page_file.specs.Stops.{SameButGate}
use Rattle.live_layers.specs.Image.{IsRefusedOrImageOf}
use Rattle.live_layers.proofs.KeepLemmas.{kept_catalog, kept_table, sound_kept}
use Rattle.live_layers.proofs.ClosingLemmas.{catalog_beside, not_shut, rests_on_more, trees_in_blocks}
use Rattle.live_layers.proofs.ClosingLemmas.{trees_kept}
use Rattle.live_layers.proofs.StopLemmas.{image_of, or_this, rests_on_table, table_closed}
use Rattle.live_layers.proofs.Results.{on_any_err, on_err, on_ok}
use Rattle.live_layers.proofs.layers.Layers.settle.Goals as goal

pub returns-in_err-write-clause-stops : goal.returns-in_err-write-clause-stops
returns-in_err-write-clause-stops g c = λ ts t sound rests.
    let d = g.B.BlockDevice in
    leaves_weaker d.moment d.left_since d.recovery (device_of c.args.self.now.cache)
    (device_of c.write.new.self.cache) (IsRefusedOrImageOf ts) (IsRefusedOrImageOf (t ∷ ts))
    (or_this ts t) (c.write.ensures.stops ts sound.map.honest rests)

pub returns-clause-stops : goal.returns-clause-stops
returns-clause-stops g c = λ ts t sound rests.
    let mid = c.write.new.self in
    let new = c.settle.new.self in
    let before = c.write.ensures.sound t sound in
    let keeps = c.settle.ensures.map in
    let spelled =
    kept_catalog mid.cache new (records_of mid.records) before.map.honest keeps
    (before.catalog c.in_ok-write.ensures.written) in
    table_closed (device_of c.args.self.now.cache) (device_of mid.cache) (device_of new) new
    (λ b. SameButGate b (blocks_of new)) ts (records_of mid.records) t
    (c.write.ensures.stops ts sound.map.honest rests)
    (c.settle.ensures.stops before.map.honest) (keeps.sound.0 before.map) spelled
    (kept_table mid.cache new (records_of mid.records) t before.map.honest keeps before.holds)

pub returns-clause-closed : goal.returns-clause-closed
returns-clause-closed g c = λ t sound.
    let mid = c.write.new.self in
    let new = c.settle.new.self in
    let before = c.write.ensures.sound t sound in
    let keeps = c.settle.ensures.map in
    let spelled =
    kept_catalog mid.cache new (records_of mid.records) before.map.honest keeps
    (before.catalog c.in_ok-write.ensures.written) in
    on_ok c.settle.result
    (λ lies. image_of new (blocks_of new) (records_of mid.records) t (keeps.sound.0 before.map) lies
    spelled (kept_table mid.cache new (records_of mid.records) t before.map.honest keeps before.holds))
    (c.settle.ensures.lies before.map.honest)

pub returns-clause-sound : goal.returns-clause-sound
returns-clause-sound g c =
    λ t sound. sound_kept c.write.new.self _ t c.settle.ensures.map refl refl (λ w. w)
    (c.write.ensures.sound t sound)

pub returns-in_err-write-clause-rests : goal.returns-in_err-write-clause-rests
returns-in_err-write-clause-rests g c =
    λ ts t sound rests. rests_on_more c.write.new.self.cache ts t
    (c.write.ensures.rests ts sound.map.honest rests)

pub returns-clause-rests : goal.returns-clause-rests
returns-clause-rests g c = λ ts t sound rests.
    let mid = c.write.new.self in
    let new = c.settle.new.self in
    let before = c.write.ensures.sound t sound in
    let keeps = c.settle.ensures.map in
    let spelled =
    kept_catalog mid.cache new (records_of mid.records) before.map.honest keeps
    (before.catalog c.in_ok-write.ensures.written) in
    rests_on_table new ts (records_of mid.records) t (keeps.sound.0 before.map) spelled
    (kept_table mid.cache new (records_of mid.records) t before.map.honest keeps before.holds)

pub returns-in_err-write-clause-refused : goal.returns-in_err-write-clause-refused
returns-in_err-write-clause-refused g c = on_any_err c.from_residual.result _ c.in_err-write.ensures.refused

pub returns-clause-refused : goal.returns-clause-refused
returns-clause-refused g c = on_err c.settle.result (not_shut _) c.settle.ensures.refused

pub returns-clause-trees : goal.returns-clause-trees
returns-clause-trees g c = λ t sound name s there.
    let mid = c.write.new.self in
    let rs = records_of mid.records in
    trees_kept mid.cache c.settle.new.self rs rs (c.write.ensures.sound t sound).map.honest
    c.settle.ensures.map refl name s (c.write.ensures.trees t sound name s there)

pub returns-clause-left : goal.returns-clause-left
returns-clause-left g c = λ t sound.
    let mid = c.write.new.self in
    let new = c.settle.new.self in
    let rs = records_of mid.records in
    let before = c.write.ensures.sound t sound in
    let keeps = c.settle.ensures.map in
    let spelled =
    kept_catalog mid.cache new rs before.map.honest keeps
    (before.catalog c.in_ok-write.ensures.written) in
    on_ok c.settle.result
    (λ lies name s there. trees_in_blocks mid.cache new rs (blocks_of new) before.map.honest keeps lies
    spelled name s (c.write.ensures.trees t sound name s there)) (c.settle.ensures.lies before.map.honest)

pub returns-clause-beside : goal.returns-clause-beside
returns-clause-beside g c =
    λ honest. catalog_beside c.args.self.now.cache c.write.new.self.cache c.settle.new.self
    (c.write.ensures.honest.0 honest) (c.write.ensures.beside honest) c.settle.ensures.map

pub returns-in_err-write-clause-spelled : goal.returns-in_err-write-clause-spelled
returns-in_err-write-clause-spelled g c = λ t sound was. c.write.ensures.spelled sound.map.honest was

pub returns-clause-spelled : goal.returns-clause-spelled
returns-clause-spelled g c = λ t sound was unopened.
    let mid = c.write.new.self in
    let before = c.write.ensures.sound t sound in
    kept_catalog mid.cache c.settle.new.self (records_of mid.records) before.map.honest c.settle.ensures.map
    (before.catalog c.in_ok-write.ensures.written)

pub returns-in_err-write-clause-versions : goal.returns-in_err-write-clause-versions
returns-in_err-write-clause-versions g c = c.write.ensures.versions

pub returns-clause-versions : goal.returns-clause-versions
returns-clause-versions g c =
    let written = c.write.ensures in
    record {
      version = λ honest. c.settle.ensures.map.version (written.honest.0 honest)
          ∙ written.versions.version honest;
      newest = written.versions.newest;
    }

pub returns-clause-has_version : goal.returns-clause-has_version
returns-clause-has_version g c = λ honest.
    let there = c.write.ensures.honest.0 honest in
    on_ok c.settle.result
    (λ lies. lies.version ∙ c.settle.ensures.map.version there ∙ c.write.ensures.versions.version honest)
    (c.settle.ensures.lies there)
