-- The catalog is written behind an open gate, and nothing else.
use Rattle.std.proofs.Common.{◌≡◌, ◌∙◌, true, false, refl, ap, arith}
use Rattle.std.specs.Prelude.{option_and_then}
use Rattle.catalog_page.specs.Layout.{records_at, records_of}
use Rattle.page_cache.specs.Cache.{device_of}
use Rattle.page_file.specs.Fault.{IsOfDevice}
use Rattle.page_cache.specs.Laws.{numbers_are_few, the_catalog_is_live}
use Rattle.live_layers.proofs.KeepLemmas.{kept_catalog, sound_kept, sound_written}
use Rattle.live_layers.proofs.ClosingLemmas.{beside_catalog, open_is_not_shut, trees_beside_catalog}
use Rattle.live_layers.proofs.ClosingLemmas.{trees_kept, unsure_is_not_shut}
use Rattle.live_layers.proofs.StopLemmas.{gate_opened, none_made, pages_written}
use Rattle.live_layers.proofs.Results.{on_any_err, the_err}
use Rattle.live_layers.proofs.layers.Layers.write.Goals as goal

pub returns-then-self-clause-stops : goal.returns-then-self-clause-stops
returns-then-self-clause-stops g c = λ ts honest rests.
    let cache = c.args.self.now.cache in
    none_made cache ts honest (λ b left. g.met.B.BlockDevice.only_now (device_of cache) b honest left) rests

pub returns-in_err-begin_change-clause-stops : goal.returns-in_err-begin_change-clause-stops
returns-in_err-begin_change-clause-stops g c = λ ts honest rests.
    let cache = c.args.self.now.cache in
    let begun = c.begin_change.ensures in
    gate_opened cache c.begin_change.new.self ts honest
    (λ b left. g.met.B.BlockDevice.only_now (device_of cache) b honest left)
    (λ opened. (begun.was_open opened).0.device) (begun.stops honest) rests

pub returns-in_err-begin_change-clause-rests : goal.returns-in_err-begin_change-clause-rests
returns-in_err-begin_change-clause-rests g c = λ ts honest rests closed b same.
    let begun = c.in_err-begin_change.ensures in
    rests (λ opened. let no : false ≡ true = (begun.was_open opened).1 in absurd (cc)) b
    (same ∙ begun.blocks honest)

pub returns-in_err-begin_change-clause-sound : goal.returns-in_err-begin_change-clause-sound
returns-in_err-begin_change-clause-sound g c =
    λ t sound. sound_kept c.args.self.now _ t c.begin_change.ensures.map refl refl (λ w. w) sound

pub returns-in_err-put-clause-stops : goal.returns-in_err-put-clause-stops
returns-in_err-put-clause-stops g c = λ ts honest rests.
    let cache = c.args.self.now.cache in
    let begun = c.begin_change.ensures in
    pages_written cache c.begin_change.new.self c.put.new.self ts (begun.honest.0 honest)
    c.in_ok-begin_change.ensures.open
    (gate_opened cache c.begin_change.new.self ts honest
    (λ b left. g.met.B.BlockDevice.only_now (device_of cache) b honest left)
    (λ opened. (begun.was_open opened).0.device) (begun.stops honest) rests)
    (c.put.ensures.changes.gate c.in_ok-begin_change.ensures.open)

pub returns-in_err-put-clause-rests : goal.returns-in_err-put-clause-rests
returns-in_err-put-clause-rests g c =
    λ ts honest rests closed. absurd
    (closed ((c.put.ensures.changes.gate c.in_ok-begin_change.ensures.open).gate ∙ c.in_ok-begin_change.ensures.open))

pub returns-in_err-put-clause-sound : goal.returns-in_err-put-clause-sound
returns-in_err-put-clause-sound g c = λ t sound.
    let keeps = c.begin_change.ensures.map in
    let map = keeps.sound.0 sound.map in
    let live = the_catalog_is_live c.begin_change.new.self in
    sound_written c.args.self.now c.begin_change.new.self _ t sound keeps
    (c.put.ensures.others map.honest live) (c.put.ensures.live map.honest live)
    (c.put.ensures.sound map live) c.put.ensures.next (c.put.ensures.changes.version map.honest)
    refl refl
    (λ w. let e : c.args.self.now.written ≡ true = w in let f = c.if-self.false in absurd (cc))

pub returns-in_err-put-clause-faults : goal.returns-in_err-put-clause-faults
returns-in_err-put-clause-faults g c = λ before.
    let begun = c.begin_change.new.self in
    let map = c.begin_change.ensures.map.sound.0 before in
    let few = numbers_are_few begun in
    the_err c.from_residual-in_err-put.result c.in_err-put.field-0.0 IsOfDevice
    c.from_residual-in_err-put.ensures.1
    (c.in_err-put.ensures.faults map.honest (omega arith) (omega (arith, few.0)))

pub returns-clause-stops : goal.returns-clause-stops
returns-clause-stops g c = λ ts honest rests.
    let cache = c.args.self.now.cache in
    let begun = c.begin_change.ensures in
    pages_written cache c.begin_change.new.self c.put.new.self ts (begun.honest.0 honest)
    c.in_ok-begin_change.ensures.open
    (gate_opened cache c.begin_change.new.self ts honest
    (λ b left. g.met.B.BlockDevice.only_now (device_of cache) b honest left)
    (λ opened. (begun.was_open opened).0.device) (begun.stops honest) rests)
    (c.put.ensures.changes.gate c.in_ok-begin_change.ensures.open)

pub returns-clause-rests : goal.returns-clause-rests
returns-clause-rests g c =
    λ ts honest rests closed. absurd
    (closed ((c.put.ensures.changes.gate c.in_ok-begin_change.ensures.open).gate ∙ c.in_ok-begin_change.ensures.open))

pub returns-clause-sound : goal.returns-clause-sound
returns-clause-sound g c = λ t sound.
    let keeps = c.begin_change.ensures.map in
    let map = keeps.sound.0 sound.map in
    let live = the_catalog_is_live c.begin_change.new.self in
    sound_written c.args.self.now c.begin_change.new.self _ t sound keeps
    (c.put.ensures.others map.honest live) (c.put.ensures.live map.honest live)
    (c.put.ensures.sound map live) c.put.ensures.next (c.put.ensures.changes.version map.honest)
    refl refl
    (λ w. ap (option_and_then records_at) (c.in_ok-put.ensures.written map.honest live)
    ∙ c.encode.ensures.read_back)

pub returns-in_err-begin_change-clause-refused : goal.returns-in_err-begin_change-clause-refused
returns-in_err-begin_change-clause-refused g c =
    on_any_err c.from_residual.result _ (unsure_is_not_shut _ c.in_err-begin_change.ensures.refused)

pub returns-in_err-put-clause-refused : goal.returns-in_err-put-clause-refused
returns-in_err-put-clause-refused g c =
    on_any_err c.from_residual-in_err-put.result _
    (open_is_not_shut _ ((c.put.ensures.changes.gate c.in_ok-begin_change.ensures.open).gate ∙ c.in_ok-begin_change.ensures.open))

pub returns-in_err-begin_change-clause-trees : goal.returns-in_err-begin_change-clause-trees
returns-in_err-begin_change-clause-trees g c = λ t sound.
    let rs = records_of c.args.self.now.records in
    trees_kept c.args.self.now.cache c.begin_change.new.self rs rs sound.map.honest
    c.begin_change.ensures.map refl

pub returns-in_err-put-clause-trees : goal.returns-in_err-put-clause-trees
returns-in_err-put-clause-trees g c = λ t sound.
    let begun = c.begin_change.new.self in
    let keeps = c.begin_change.ensures.map in
    trees_beside_catalog c.args.self.now begun c.put.new.self t sound keeps
    (c.put.ensures.others (keeps.sound.0 sound.map).honest (the_catalog_is_live begun))

pub returns-clause-trees : goal.returns-clause-trees
returns-clause-trees g c = λ t sound.
    let begun = c.begin_change.new.self in
    let keeps = c.begin_change.ensures.map in
    trees_beside_catalog c.args.self.now begun c.put.new.self t sound keeps
    (c.put.ensures.others (keeps.sound.0 sound.map).honest (the_catalog_is_live begun))

pub returns-then-self-clause-spelled : goal.returns-then-self-clause-spelled
returns-then-self-clause-spelled g c = λ honest was. was

pub returns-then-self-clause-beside : goal.returns-then-self-clause-beside
returns-then-self-clause-beside g c = λ honest n other. refl

pub returns-in_err-begin_change-clause-beside : goal.returns-in_err-begin_change-clause-beside
returns-in_err-begin_change-clause-beside g c =
    λ honest n other. c.begin_change.ensures.map.pages_stay honest n

pub returns-in_err-put-clause-beside : goal.returns-in_err-put-clause-beside
returns-in_err-put-clause-beside g c = λ honest.
    let begun = c.begin_change.ensures in
    beside_catalog c.args.self.now.cache c.begin_change.new.self c.put.new.self honest begun.map
    (c.put.ensures.others (begun.honest.0 honest) (the_catalog_is_live c.begin_change.new.self))

pub returns-clause-beside : goal.returns-clause-beside
returns-clause-beside g c = λ honest.
    let begun = c.begin_change.ensures in
    beside_catalog c.args.self.now.cache c.begin_change.new.self c.put.new.self honest begun.map
    (c.put.ensures.others (begun.honest.0 honest) (the_catalog_is_live c.begin_change.new.self))

-- the gate was not open where it could not be opened
pub returns-in_err-begin_change-clause-spelled : goal.returns-in_err-begin_change-clause-spelled
returns-in_err-begin_change-clause-spelled g c = λ honest was unopened.
    let old = c.args.self.now in
    let begun = c.in_err-begin_change.ensures in
    kept_catalog old.cache c.begin_change.new.self (records_of old.records) honest c.begin_change.ensures.map
    (was (λ opened. let no : false ≡ true = (begun.was_open opened).1 in absurd (cc)))

pub returns-in_err-put-clause-spelled : goal.returns-in_err-put-clause-spelled
returns-in_err-put-clause-spelled g c =
    λ honest was unopened. absurd
    (unopened ((c.put.ensures.changes.gate c.in_ok-begin_change.ensures.open).gate ∙ c.in_ok-begin_change.ensures.open))

pub returns-clause-spelled : goal.returns-clause-spelled
returns-clause-spelled g c =
    λ honest was unopened. absurd
    (unopened ((c.put.ensures.changes.gate c.in_ok-begin_change.ensures.open).gate ∙ c.in_ok-begin_change.ensures.open))

pub returns-then-self-clause-versions : goal.returns-then-self-clause-versions
returns-then-self-clause-versions g c = record { version = λ honest. refl; newest = refl }

pub returns-in_err-begin_change-clause-versions : goal.returns-in_err-begin_change-clause-versions
returns-in_err-begin_change-clause-versions g c =
    record { version = c.begin_change.ensures.map.version; newest = refl }

pub returns-in_err-put-clause-versions : goal.returns-in_err-put-clause-versions
returns-in_err-put-clause-versions g c =
    let begun = c.begin_change.ensures in
    record {
      version = λ honest. c.put.ensures.changes.version (begun.honest.0 honest)
          ∙ begun.map.version honest;
      newest = refl;
    }

pub returns-clause-versions : goal.returns-clause-versions
returns-clause-versions g c =
    let begun = c.begin_change.ensures in
    record {
      version = λ honest. c.put.ensures.changes.version (begun.honest.0 honest)
          ∙ begun.map.version honest;
      newest = refl;
    }
