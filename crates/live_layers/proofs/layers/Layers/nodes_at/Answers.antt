-- What is listed are the nodes of the tree of the layer.
use Rattle.std.proofs.Common.{refl, sym, subst}
use Rattle.block_device.specs.Device.{HasRisen}
use Rattle.page_cache.specs.Cache.{device_of}
use Rattle.plain_table.specs.declared.refusal.Refusal.{Refusal}
use Rattle.store_law.specs.Lawful.{IsFault}
use Rattle.live_layers.proofs.AskLemmas.{device_refuses, risen_of}
use Rattle.live_layers.proofs.LocateLemmas.{stands_with}
use Rattle.live_layers.proofs.QuestionLemmas.{asks_and_answers, asks_and_fails}
use Rattle.live_layers.proofs.layers.Layers.nodes_at.Goals as goal

pub returns-in-Ok-clause-listed : goal.returns-in-Ok-clause-listed
returns-in-Ok-clause-listed g c = λ t name sound located.
    let there = c.args.located.now in
    let at = stands_with c.args.self.now t name there located g.row.D c.requires.axes in
    let tree = located.layer.tree in
    record {
      tree = tree;
      is_tree = located.its_tree;
      rows_are = c.in-Ok.ensures.rows sound.map.honest tree at.tree.page_is at.tree.level_is at.tree.stands;
      looks = c.in-Ok.ensures.looks sound.map.honest tree at.tree.page_is at.tree.level_is at.tree.stands;
    }

pub returns-in-Err-clause-fault : goal.returns-in-Err-clause-fault
returns-in-Err-clause-fault g c = λ t name sound located.
    let old = c.args.self.now in
    let there = c.args.located.now in
    let at = stands_with old t name there located g.row.D c.requires.axes in
    let rose =
    HasRisen (g.B.BlockDevice.faults (device_of old.cache))
    (g.B.BlockDevice.faults (device_of c.outline.new.cache)) in
    subst (λ (x : Refusal). IsFault rose x) (sym c.as_refusal.ensures)
    (device_refuses rose c.in-Err.fault
    (c.in-Err.ensures.stands sound.map.honest located.layer.tree at.tree.page_is at.tree.level_is
    at.tree.stands) (risen_of _ _ c.in-Err.fault c.in-Err.ensures.asks.faults))

pub returns-in-Ok-clause-keeps : goal.returns-in-Ok-clause-keeps
returns-in-Ok-clause-keeps g c =
    asks_and_answers c.args.self.now _ (refl, refl, refl, refl) c.in-Ok.ensures.asks

pub returns-in-Err-clause-keeps : goal.returns-in-Err-clause-keeps
returns-in-Err-clause-keeps g c =
    asks_and_fails c.args.self.now _ c.in-Err.fault c.as_refusal.ensures (refl, refl, refl, refl)
    c.in-Err.ensures.asks c.in-Err.ensures.other_faults
