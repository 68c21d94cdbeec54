-- What is counted are the pages of the identifier table of the layer.
use Rattle.std.proofs.Common.{arith, refl, sym, subst}
use Rattle.block_device.specs.Device.{HasRisen}
use Rattle.id_table.specs.Checked.{IsCheckedTable}
use Rattle.page_cache.specs.Cache.{device_of, pages}
use Rattle.plain_table.specs.declared.refusal.Refusal.{Refusal}
use Rattle.store_law.specs.Lawful.{IsFault}
use Rattle.live_layers.proofs.AskLemmas.{device_refuses, risen_of}
use Rattle.live_layers.proofs.LocateLemmas.{stands_with}
use Rattle.live_layers.proofs.QuestionLemmas.{asks_and_answers, asks_and_fails}
use Rattle.live_layers.proofs.layers.Layers.id_pages_at.Goals as goal

pub returns-in-Ok-clause-counted : goal.returns-in-Ok-clause-counted
returns-in-Ok-clause-counted g c = λ t name sound located.
    let there = c.args.located.now in
    let facts = c.in-Ok.facts in
    record {
      located = there;
      stands = located;
      pairs = facts.pairs.items;
      list = facts.pages.items;
      table = subst (λ d. IsCheckedTable d (pages c.args.self.now.cache) there.ids_root facts.pairs.items
          facts.pages.items) (sym c.requires.axes) (c.in-Ok.ensures.table sound.map);
      many = omega (arith, c.len.ensures);
    }

pub returns-in-Err-clause-fault : goal.returns-in-Err-clause-fault
returns-in-Err-clause-fault g c = λ t name sound located.
    let old = c.args.self.now in
    let there = c.args.located.now in
    let at = stands_with old t name there located g.row.D c.requires.axes in
    let rose =
    HasRisen (g.B.BlockDevice.faults (device_of old.cache))
    (g.B.BlockDevice.faults (device_of c.check_table.new.cache)) in
    subst (λ (x : Refusal). IsFault rose x) (sym c.as_refusal.ensures)
    (device_refuses rose c.in-Err.fault
    (c.in-Err.ensures.stands sound.map.honest located.layer.ids at.ids_root_is at.ids)
    (risen_of _ _ c.in-Err.fault c.in-Err.ensures.asks.faults))

pub returns-in-Ok-clause-keeps : goal.returns-in-Ok-clause-keeps
returns-in-Ok-clause-keeps g c =
    asks_and_answers c.args.self.now _ (refl, refl, refl, refl) c.in-Ok.ensures.asks

pub returns-in-Err-clause-keeps : goal.returns-in-Err-clause-keeps
returns-in-Err-clause-keeps g c =
    asks_and_fails c.args.self.now _ c.in-Err.fault c.as_refusal.ensures (refl, refl, refl, refl)
    c.in-Err.ensures.asks c.in-Err.ensures.other_faults
