-- What is found in the tree are the objects of the layer that are sought.
use Rattle.std.proofs.Common.{◌&&◌, ℕ, List, refl, sym, subst}
use Rattle.std.specs.FinMap.{entries}
use Rattle.std.specs.Prelude.{IsPermutation, filter}
use Rattle.box_math.specs.Objects.{Object, bounds_of, has_tag}
use Rattle.box_math.specs.Queries.{seeks}
use Rattle.layer_pages.proofs.AnswerLemmas.{found_are_objects}
use Rattle.block_device.specs.Device.{HasRisen}
use Rattle.page_cache.specs.Cache.{device_of, pages}
use Rattle.plain_table.specs.Table.{layer_at}
use Rattle.plain_table.specs.declared.refusal.Refusal.{Refusal}
use Rattle.store_law.specs.Lawful.{IsFault}
use Rattle.live_layers.proofs.AskLemmas.{device_refuses, risen_of}
use Rattle.live_layers.proofs.LocateLemmas.{stands_with}
use Rattle.live_layers.proofs.QuestionLemmas.{asks_and_answers, asks_and_fails}
use Rattle.live_layers.proofs.layers.Layers.seek_unordered.Goals as goal

pub returns-in-Ok-clause-rows : goal.returns-in-Ok-clause-rows
returns-in-Ok-clause-rows g c = λ t name sound located.
    let there = c.args.located.now in
    let old = c.args.self.now in
    let at = stands_with old t name there located g.row.D c.requires.axes in
    subst
    (λ (rows : List (ℕ × Object)). IsPermutation
    (filter (λ row. seeks c.args.query.now (bounds_of row.1) && has_tag c.args.tag row.1)
    (entries (layer_at t name).objects)) rows)
    (sym (c.in-Ok.ensures.rows sound.map.honest located.layer.tree there.fanout.most at.tree))
    (found_are_objects g.row.D there.fanout.most (pages old.cache) there.root there.ids_root located.layer
    (layer_at t name).objects (seeks c.args.query.now) c.args.tag at)

pub returns-in-Ok-clause-looks : goal.returns-in-Ok-clause-looks
returns-in-Ok-clause-looks g c = λ t name sound located.
    let there = c.args.located.now in
    let at = stands_with c.args.self.now t name there located g.row.D c.requires.axes in
    record {
      tree = located.layer.tree;
      is_tree = located.its_tree;
      looks = c.in-Ok.ensures.looks sound.map.honest located.layer.tree there.fanout.most at.tree;
    }

pub returns-in-Err-clause-fault : goal.returns-in-Err-clause-fault
returns-in-Err-clause-fault g c = λ t name sound located.
    let there = c.args.located.now in
    let at = stands_with c.args.self.now t name there located g.row.D c.requires.axes in
    let rose =
    HasRisen (g.B.BlockDevice.faults (device_of c.args.self.now.cache))
    (g.B.BlockDevice.faults (device_of c.range_in_tree_order.new.cache)) in
    subst (λ (x : Refusal). IsFault rose x) (sym c.as_refusal.ensures)
    (device_refuses rose c.in-Err.fault
    (c.in-Err.ensures.stands sound.map.honest located.layer.tree there.fanout.most at.tree)
    (risen_of _ _ c.in-Err.fault c.in-Err.ensures.asks.faults))

pub returns-in-Ok-clause-keeps : goal.returns-in-Ok-clause-keeps
returns-in-Ok-clause-keeps g c =
    asks_and_answers c.args.self.now _ (refl, refl, refl, refl) c.in-Ok.ensures.asks

pub returns-in-Err-clause-keeps : goal.returns-in-Err-clause-keeps
returns-in-Err-clause-keeps g c =
    asks_and_fails c.args.self.now _ c.in-Err.fault c.as_refusal.ensures (refl, refl, refl, refl)
    c.in-Err.ensures.asks c.in-Err.ensures.other_faults
