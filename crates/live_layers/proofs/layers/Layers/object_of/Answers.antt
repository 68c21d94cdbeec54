-- The identifier table has the layer's objects.
use Rattle.std.proofs.Common.{◌∙◌, true, false, ap, refl, sym, inl, inr}
use Rattle.block_device.specs.Device.{HasRisen}
use Rattle.page_cache.specs.Cache.{device_of}
use Rattle.std.specs.FinMap as map
use Rattle.layer_pages.specs.Layers.{Objects}
use Rattle.plain_table.specs.Table.{layer_at}
use Rattle.live_layers.proofs.ReplyLemmas.{object_found, object_missing}
use Rattle.live_layers.proofs.LocateLemmas.{stands_with}
use Rattle.live_layers.proofs.QuestionLemmas.{asks_and_answers, asks_and_fails, asks_and_refuses}
use Rattle.live_layers.proofs.SpotLemmas.{spot_stays}
use Rattle.live_layers.proofs.RefusalLemmas.{fault_of_none}
use Rattle.live_layers.proofs.layers.Layers.object_of.Goals as goal

pub returns-in-None-clause-replied : goal.returns-in-None-clause-replied
returns-in-None-clause-replied g c = λ t name sound located.
    let there = c.args.located.now in
    let at = stands_with c.args.self.now t name there located g.row.D c.requires.axes in
    let found = c.in-Ok.ensures.found sound.map.honest located.layer.ids at.ids_root_is at.ids in
    object_missing
    (HasRisen (g.B.BlockDevice.faults (device_of c.args.self.now.cache))
    (g.B.BlockDevice.faults (device_of c.find.new.cache))) (layer_at t name) c.args.id
    (ap (λ (o : Objects). map.get o c.args.id) (sym at.table) ∙ sym found ∙ c.in-None.is)

pub returns-in-Some-clause-replied : goal.returns-in-Some-clause-replied
returns-in-Some-clause-replied g c = λ t name sound located.
    let there = c.args.located.now in
    let at = stands_with c.args.self.now t name there located g.row.D c.requires.axes in
    let found = c.in-Ok.ensures.found sound.map.honest located.layer.ids at.ids_root_is at.ids in
    object_found
    (HasRisen (g.B.BlockDevice.faults (device_of c.args.self.now.cache))
    (g.B.BlockDevice.faults (device_of c.find.new.cache))) (layer_at t name) c.args.id c.in-Some.kept
    (ap (λ (o : Objects). map.get o c.args.id) (sym at.table) ∙ sym found ∙ c.in-Some.is)

pub returns-in-Some-clause-spot : goal.returns-in-Some-clause-spot
returns-in-Some-clause-spot g c = λ t sound.
    spot_stays g.row.D c.args.self.now (record c.args.self.now { cache = c.find.new.cache })
    (c.in-Ok.ensures.asks.map.pages_stay sound.map.honest) refl 0 c.args.id c.in-Ok.sought.spot
    c.args.located.now (c.in-Ok.ensures.spot sound.map.honest)

pub returns-in-Some-clause-keeps : goal.returns-in-Some-clause-keeps
returns-in-Some-clause-keeps g c =
    asks_and_answers c.args.self.now _ (refl, refl, refl, refl) c.in-Ok.ensures.asks

pub returns-in-None-clause-keeps : goal.returns-in-None-clause-keeps
returns-in-None-clause-keeps g c =
    asks_and_refuses c.args.self.now _ refl (refl, refl, refl, refl) c.in-Ok.ensures.asks

pub returns-in-Err-clause-keeps : goal.returns-in-Err-clause-keeps
returns-in-Err-clause-keeps g c =
    asks_and_fails c.args.self.now _ c.in-Err.fault c.as_refusal.ensures (refl, refl, refl, refl)
    c.in-Err.ensures.asks c.in-Err.ensures.other_faults

pub returns-in-Some-clause-in_turn : goal.returns-in-Some-clause-in_turn
returns-in-Some-clause-in_turn g c = (true, refl)

pub returns-in-None-clause-in_turn : goal.returns-in-None-clause-in_turn
returns-in-None-clause-in_turn g c = inl (false, refl)

pub returns-in-Err-clause-in_turn : goal.returns-in-Err-clause-in_turn
returns-in-Err-clause-in_turn g c = inr (fault_of_none c.in-Err.fault _ c.as_refusal.ensures)
