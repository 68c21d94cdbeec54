-- What is found in the tree are the objects of the layer that are nearest.
use Rattle.std.proofs.Common.{◌≡◌, ◌∙◌, ℕ, List, [], ◌∷◌, not, take, refl, sym, ap, inl, inr}
use Rattle.block_device.specs.Device.{HasRisen}
use Rattle.std.specs.FinMap.{entries}
use Rattle.box_math.specs.Nearest.{by_distance}
use Rattle.layer_pages.proofs.AnswerLemmas.{nearest_are_objects}
use Rattle.nearest.specs.Nearest.{is_searched, nearest_rows}
use Rattle.page_cache.specs.Cache.{device_of, looks_of, pages}
use Rattle.plain_table.specs.Nearest.{is_count}
use Rattle.plain_table.specs.Step.{first_refusal, refused_or}
use Rattle.plain_table.specs.Step.Answer.{Distances, Refused}
use Rattle.plain_table.specs.Table.{layer_at}
use Rattle.plain_table.specs.declared.refusal.Refusal.{Refusal}
use Rattle.plain_table.specs.declared.refusal.Refusal.TheVariants as refusal
use Rattle.std.specs.Prelude.{Option, ◌==◌}
use Rattle.tree_node.specs.Searches.{admitted, counted}
use Rattle.live_layers.proofs.AskLemmas.{device_refuses, risen_of, tested_other, tested_same}
use Rattle.live_layers.proofs.ReplyLemmas.{good_count, reply_failed}
use Rattle.live_layers.proofs.LocateLemmas.{stands_with}
use Rattle.live_layers.proofs.QuestionLemmas.{asks_and_answers, asks_and_fails}
use Rattle.live_layers.proofs.RefusalLemmas.{count_passes, fault_of_none}
use Rattle.live_layers.proofs.RefusalLemmas.{not_a_count, point_axes}
use Rattle.live_layers.proofs.layers.Layers.nearest_to.Goals as goal

pub returns-in-Ok-clause-replied : goal.returns-in-Ok-clause-replied
returns-in-Ok-clause-replied g c = λ t name sound located.
    let old = c.args.self.now in
    let there = c.args.located.now in
    let layer = layer_at t name in
    let point = c.args.point.now in
    let objects = entries layer.objects in
    let axes : there.dims ≡ g.row.D = sym c.from.ensures ∙ c.if-from.false in
    let at = stands_with old t name there located g.row.D axes in
    let nearest : c.in-Ok.rows.items ≡ take c.args.k (by_distance layer.dims point objects) =
    c.in-Ok.ensures.rows sound.map.honest located.layer.tree there.fanout.most at.tree
    ∙ nearest_are_objects g.row.D there.fanout.most (pages old.cache) there.root there.ids_root located.layer
    layer.objects c.args.k point at
    ∙ ap (λ (d : ℕ). take c.args.k (by_distance d point objects)) (sym axes ∙ sym located.dims) in
    let right = tested_same g.row.D layer.dims there.dims located.dims axes in
    let good = good_count g.row.D c.args.k layer right (sym c.is_count.ensures ∙ c.if-not-is_count.false) in
    inl (ap Distances nearest
    ∙ ap (λ (o : Option Refusal). refused_or o
    (Distances (take c.args.k (by_distance layer.dims point objects)))) (sym good))

pub returns-in-Ok-clause-looks : goal.returns-in-Ok-clause-looks
returns-in-Ok-clause-looks g c = λ t name sound located.
    let old = c.args.self.now in
    let there = c.args.located.now in
    let layer = layer_at t name in
    let point = c.args.point.now in
    let objects = entries layer.objects in
    let axes : there.dims ≡ g.row.D = sym c.from.ensures ∙ c.if-from.false in
    let at = stands_with old t name there located g.row.D axes in
    let tree = located.layer.tree in
    let nearest : nearest_rows g.row.D c.args.k point tree ≡ take c.args.k
    (by_distance layer.dims point objects) =
    nearest_are_objects g.row.D there.fanout.most (pages old.cache) there.root there.ids_root located.layer
    layer.objects c.args.k point at
    ∙ ap (λ (d : ℕ). take c.args.k (by_distance d point objects)) (sym axes ∙ sym located.dims) in
    record {
      tree = tree;
      is_tree = located.its_tree;
      looks = c.in-Ok.ensures.looks sound.map.honest tree there.fanout.most at.tree
          ∙ ap (λ (rows : List (ℕ × ℕ)). counted (looks_of old.cache)
          (admitted (is_searched g.row.D c.args.k point rows) tree)) nearest;
    }

pub returns-in-Err-clause-replied : goal.returns-in-Err-clause-replied
returns-in-Err-clause-replied g c = λ t name sound located.
    let there = c.args.located.now in
    let axes : there.dims ≡ g.row.D = sym c.from.ensures ∙ c.if-from.false in
    let at = stands_with c.args.self.now t name there located g.row.D axes in
    let layer = layer_at t name in
    let rose =
    HasRisen (g.B.BlockDevice.faults (device_of c.args.self.now.cache))
    (g.B.BlockDevice.faults (device_of c.nearest.new.cache)) in
    reply_failed rose
    (first_refusal
    ((not (g.row.D == layer.dims), refusal.WrongDims) ∷ (not (is_count c.args.k), refusal.BadCount) ∷ []))
    (Distances (take c.args.k (by_distance layer.dims c.args.point.now (entries layer.objects)))) _ _
    (device_refuses rose c.in-Err.fault
    (c.in-Err.ensures.stands sound.map.honest located.layer.tree there.fanout.most at.tree)
    (risen_of _ _ c.in-Err.fault c.in-Err.ensures.asks.faults))
    (ap Refused c.as_refusal.ensures)

pub returns-in-Ok-clause-keeps : goal.returns-in-Ok-clause-keeps
returns-in-Ok-clause-keeps g c =
    asks_and_answers c.args.self.now _ (refl, refl, refl, refl) c.in-Ok.ensures.asks

pub returns-in-Err-clause-keeps : goal.returns-in-Err-clause-keeps
returns-in-Err-clause-keeps g c =
    asks_and_fails c.args.self.now _ c.in-Err.fault c.as_refusal.ensures (refl, refl, refl, refl)
    c.in-Err.ensures.asks c.in-Err.ensures.other_faults

pub returns-then-from-clause-in_turn : goal.returns-then-from-clause-in_turn
returns-then-from-clause-in_turn g c =
    inl (point_axes g.row.D c.args.located.now.dims c.args.k
    (tested_other g.row.D c.args.located.now.dims c.args.located.now.dims refl
    (λ e. c.if-from.true (c.from.ensures ∙ e))))

pub returns-then-not-is_count-clause-in_turn : goal.returns-then-not-is_count-clause-in_turn
returns-then-not-is_count-clause-in_turn g c =
    let axes : c.args.located.now.dims ≡ g.row.D = sym c.from.ensures ∙ c.if-from.false in
    inl (not_a_count g.row.D c.args.located.now.dims c.args.k
    (tested_same g.row.D c.args.located.now.dims c.args.located.now.dims refl axes)
    (sym c.is_count.ensures ∙ c.if-not-is_count.true))

pub returns-in-Ok-clause-in_turn : goal.returns-in-Ok-clause-in_turn
returns-in-Ok-clause-in_turn g c =
    let axes : c.args.located.now.dims ≡ g.row.D = sym c.from.ensures ∙ c.if-from.false in
    count_passes g.row.D c.args.located.now.dims c.args.k
    (tested_same g.row.D c.args.located.now.dims c.args.located.now.dims refl axes)
    (sym c.is_count.ensures ∙ c.if-not-is_count.false)

pub returns-in-Err-clause-in_turn : goal.returns-in-Err-clause-in_turn
returns-in-Err-clause-in_turn g c = inr (fault_of_none c.in-Err.fault _ c.as_refusal.ensures)
