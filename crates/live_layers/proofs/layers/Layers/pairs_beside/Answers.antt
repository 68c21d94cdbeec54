-- The pairs that are found in the tree are those of the objects of the layer.
use Rattle.std.proofs.Common.{◌∙◌, ◌+◌, ◌≤◌, ℕ, List, map, refl, sym, subst}
use Rattle.std.specs.FinMap.{entries}
use Rattle.std.specs.Prelude.{IsPermutation}
use Rattle.box_math.specs.Objects.{Object}
use Rattle.block_device.specs.Device.{HasRisen}
use Rattle.page_cache.specs.Cache.{device_of, looks_of}
use Rattle.plain_table.specs.Loads.{given_object}
use Rattle.plain_table.specs.Table.{layer_at}
use Rattle.plain_table.specs.declared.refusal.Refusal.{Refusal}
use Rattle.spatial_join.specs.Pairs.{near_objects}
use Rattle.spatial_join.specs.Rows.{looks_beside}
use Rattle.store_law.specs.Lawful.{IsFault}
use Rattle.tree_node.specs.Trees.{objects_in}
use Rattle.live_layers.proofs.AskLemmas.{device_refuses, risen_of}
use Rattle.live_layers.proofs.LocateLemmas.{stands_with}
use Rattle.live_layers.proofs.QuestionLemmas.{asks_and_answers, asks_and_fails}
use Rattle.live_layers.proofs.JoinLemmas.{rows_are}
use Rattle.live_layers.proofs.layers.Layers.pairs_beside.Goals as goal

pub returns-in-Ok-clause-pairs : goal.returns-in-Ok-clause-pairs
returns-in-Ok-clause-pairs g c = λ t name given sound located same.
    let there = c.args.located.now in
    let layer = layer_at t name in
    let at = stands_with c.args.self.now t name there located g.row.D c.requires.axes in
    let answer = c.in-Ok.ensures.pairs sound.map.honest located.layer.tree there.fanout.most at.tree in
    record {
      all = rows_are layer.dims c.args.within located.layer.tree (map given_object given)
          (entries layer.objects) c.in-Ok.pairs.items at.leaves
          (subst
          (λ (dims : ℕ). IsPermutation (near_objects dims c.args.within (map given_object given)
          (objects_in located.layer.tree.row)) c.in-Ok.pairs.items) (sym (located.dims ∙ c.requires.axes))
          (subst
          (λ (rows : List (ℕ × Object)). IsPermutation (near_objects g.row.D c.args.within rows
          (objects_in located.layer.tree.row)) c.in-Ok.pairs.items) same answer.all));
      order = answer.order;
    }

pub returns-in-Ok-clause-looks : goal.returns-in-Ok-clause-looks
returns-in-Ok-clause-looks g c = λ t name given sound located same.
    let there = c.args.located.now in
    let old = c.args.self.now in
    let at = stands_with old t name there located g.row.D c.requires.axes in
    let looks = c.in-Ok.ensures.looks sound.map.honest located.layer.tree there.fanout.most at.tree in
    record {
      tree = located.layer.tree;
      is_tree = located.its_tree;
      looks = subst
          (λ (dims : ℕ). looks_of c.join_rows.new.cache ≤ looks_of old.cache
          + looks_beside dims c.args.within (map given_object given) located.layer.tree)
          (sym (located.dims ∙ c.requires.axes))
          (subst
          (λ (rows : List (ℕ × Object)). looks_of c.join_rows.new.cache ≤ looks_of old.cache
          + looks_beside g.row.D c.args.within rows located.layer.tree) same looks);
    }

pub returns-in-Err-clause-fault : goal.returns-in-Err-clause-fault
returns-in-Err-clause-fault g c = λ t name sound located.
    let there = c.args.located.now in
    let at = stands_with c.args.self.now t name there located g.row.D c.requires.axes in
    let rose =
    HasRisen (g.B.BlockDevice.faults (device_of c.args.self.now.cache))
    (g.B.BlockDevice.faults (device_of c.join_rows.new.cache)) in
    subst (λ (x : Refusal). IsFault rose x) (sym c.as_refusal.ensures)
    (device_refuses rose c.in-Err.fault
    (c.in-Err.ensures.stands sound.map.honest located.layer.tree there.fanout.most at.tree)
    (risen_of _ _ c.in-Err.fault c.in-Err.ensures.asks.faults))

pub returns-in-Ok-clause-keeps : goal.returns-in-Ok-clause-keeps
returns-in-Ok-clause-keeps g c =
    asks_and_answers c.args.self.now _ (refl, refl, refl, refl) c.in-Ok.ensures.asks

pub returns-in-Err-clause-keeps : goal.returns-in-Err-clause-keeps
returns-in-Err-clause-keeps g c =
    asks_and_fails c.args.self.now _ c.in-Err.fault c.as_refusal.ensures (refl, refl, refl, refl)
    c.in-Err.ensures.asks c.in-Err.ensures.other_faults
