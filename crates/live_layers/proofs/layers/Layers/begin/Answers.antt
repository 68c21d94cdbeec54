-- The gate is opened, was open, or is not opened; the pages stay.
use Rattle.std.proofs.Common.{refl}
use Rattle.std.specs.Prelude.{Ok, Err}
use Rattle.live_layers.specs.Broken.{before}
use Rattle.page_cache.specs.Cache.{device_of}
use Rattle.live_layers.proofs.BegunLemmas.{gate_begun, handed_on}
use Rattle.live_layers.proofs.KeepLemmas.{sound_kept}
use Rattle.live_layers.proofs.layers.Layers.begin.Goals as goal

pub returns-in_err-begin_change-clause-begins : goal.returns-in_err-begin_change-clause-begins
returns-in_err-begin_change-clause-begins g c =
    let cache = c.args.self.now.cache in
    let begun = c.begin_change.ensures in
    let f = c.in_err-begin_change.field-0.0 in
    handed_on cache c.begin_change.new.self (before f) c.from_residual.result c.from_residual.ensures.1
    (gate_begun cache c.begin_change.new.self (Err (before f))
    (λ honest b left. g.met.B.BlockDevice.only_now (device_of cache) b honest left)
    (λ opened. (begun.was_open opened).0) begun.blocks begun.stops begun.honest begun.map tt refl
    c.in_err-begin_change.ensures.faults c.in_err-begin_change.ensures.cause.refused)

pub returns-in_err-begin_change-clause-sound : goal.returns-in_err-begin_change-clause-sound
returns-in_err-begin_change-clause-sound g c =
    λ t sound. sound_kept c.args.self.now _ t c.begin_change.ensures.map refl refl (λ w. w) sound

pub returns-clause-begins : goal.returns-clause-begins
returns-clause-begins g c =
    let cache = c.args.self.now.cache in
    let begun = c.begin_change.ensures in
    gate_begun cache c.begin_change.new.self (Ok tt)
    (λ honest b left. g.met.B.BlockDevice.only_now (device_of cache) b honest left)
    (λ opened. (begun.was_open opened).0) begun.blocks begun.stops begun.honest begun.map
    c.in_ok-begin_change.ensures.open tt tt c.in_ok-begin_change.ensures.cause.ok

pub returns-clause-sound : goal.returns-clause-sound
returns-clause-sound g c =
    λ t sound. sound_kept c.args.self.now _ t c.begin_change.ensures.map refl refl (λ w. w) sound

pub returns-in_err-begin_change-clause-keeps : goal.returns-in_err-begin_change-clause-keeps
returns-in_err-begin_change-clause-keeps g c =
    record { map = c.begin_change.ensures.map; records = refl; written = λ was. was; newest = refl }

pub returns-clause-keeps : goal.returns-clause-keeps
returns-clause-keeps g c =
    record { map = c.begin_change.ensures.map; records = refl; written = λ was. was; newest = refl }
