-- The pairs that are found in the trees are those of the objects of the layers.
use Rattle.std.proofs.Common.{refl, sym, subst}
use Rattle.block_device.specs.Device.{HasRisen}
use Rattle.page_cache.specs.Cache.{device_of, pages}
use Rattle.plain_table.specs.Table.{layer_at}
use Rattle.plain_table.specs.declared.refusal.Refusal.{Refusal}
use Rattle.std.proofs.Common.{◌∙◌}
use Rattle.store_law.specs.Lawful.{IsFault}
use Rattle.live_layers.proofs.AskLemmas.{device_refuses, risen_of}
use Rattle.live_layers.proofs.JoinLemmas.{pairs_are}
use Rattle.live_layers.proofs.LocateLemmas.{stands_with}
use Rattle.live_layers.proofs.QuestionLemmas.{asks_and_answers, asks_and_fails}
use Rattle.live_layers.proofs.RefusalLemmas.{fault_of_none}
use Rattle.live_layers.proofs.layers.Layers.pairs_in.Goals as goal

pub returns-in-Ok-clause-pairs : goal.returns-in-Ok-clause-pairs
returns-in-Ok-clause-pairs g c = λ t first second sound located other.
    let old = c.args.self.now in
    let left = c.args.left.now in
    let right = c.args.right.now in
    let at = stands_with old t first left located g.row.D c.requires.left in
    let at' = stands_with old t second right other g.row.D c.requires.right in
    pairs_are g.row.D c.args.within left.fanout.most right.fanout.most (pages old.cache) left.root right.root
    left.ids_root right.ids_root located.layer other.layer (layer_at t first) (layer_at t second)
    c.in-Ok.pairs.items
    (located.dims ∙ c.requires.left) at at'
    (c.in-Ok.ensures.pairs sound.map.honest located.layer.tree other.layer.tree left.fanout.most
    right.fanout.most
    at.tree at'.tree)

pub returns-in-Ok-clause-looks : goal.returns-in-Ok-clause-looks
returns-in-Ok-clause-looks g c = λ t first second sound located other.
    let old = c.args.self.now in
    let left = c.args.left.now in
    let right = c.args.right.now in
    let at = stands_with old t first left located g.row.D c.requires.left in
    let at' = stands_with old t second right other g.row.D c.requires.right in
    record {
      tree = located.layer.tree;
      other = other.layer.tree;
      is_tree = located.its_tree;
      is_other = other.its_tree;
      looks = c.in-Ok.ensures.looks sound.map.honest located.layer.tree other.layer.tree left.fanout.most
          right.fanout.most at.tree at'.tree;
    }

pub returns-in-Err-clause-fault : goal.returns-in-Err-clause-fault
returns-in-Err-clause-fault g c = λ t first second sound located other.
    let old = c.args.self.now in
    let left = c.args.left.now in
    let right = c.args.right.now in
    let at = stands_with old t first left located g.row.D c.requires.left in
    let at' = stands_with old t second right other g.row.D c.requires.right in
    let rose =
    HasRisen (g.B.BlockDevice.faults (device_of old.cache))
    (g.B.BlockDevice.faults (device_of c.join.new.cache)) in
    subst (λ (x : Refusal). IsFault rose x) (sym c.as_refusal.ensures)
    (device_refuses rose c.in-Err.fault
    (c.in-Err.ensures.stands sound.map.honest located.layer.tree other.layer.tree left.fanout.most
    right.fanout.most at.tree at'.tree) (risen_of _ _ c.in-Err.fault c.in-Err.ensures.asks.faults))

pub returns-in-Ok-clause-keeps : goal.returns-in-Ok-clause-keeps
returns-in-Ok-clause-keeps g c =
    asks_and_answers c.args.self.now _ (refl, refl, refl, refl) c.in-Ok.ensures.asks

pub returns-in-Err-clause-keeps : goal.returns-in-Err-clause-keeps
returns-in-Err-clause-keeps g c =
    asks_and_fails c.args.self.now _ c.in-Err.fault c.as_refusal.ensures (refl, refl, refl, refl)
    c.in-Err.ensures.asks c.in-Err.ensures.other_faults

pub returns-in-Err-clause-of_none : goal.returns-in-Err-clause-of_none
returns-in-Err-clause-of_none g c = fault_of_none c.in-Err.fault _ c.as_refusal.ensures
