-- The object that is answered is taken out.
use Rattle.std.proofs.Common.{◌≡◌, ◌∙◌, Option, Some, [], ◌∷◌, refl, sym, subst}
use Rattle.std.specs.Prelude.{◌⊎◌}
use Rattle.plain_table.specs.Commands.Command.{Delete}
use Rattle.plain_table.specs.Step.{first_refusal, missing_refusals, object_row}
use Rattle.plain_table.specs.Table.{layer_at}
use Rattle.plain_table.specs.declared.refusal.Refusal.{Refusal}
use Rattle.store_law.specs.Lawful.{IsFault}
use Rattle.live_layers.specs.Changes.{Rose}
use Rattle.live_layers.specs.Refusals.{lost_refusals, refusals_in}
use Rattle.live_layers.specs.Rules.{HasLost}
use Rattle.live_layers.proofs.ChangeLemmas.{begun_change, begun_keeps, begun_tree, refused_change}
use Rattle.live_layers.proofs.ChangeLemmas.{refused_keeps}
use Rattle.live_layers.proofs.DeleteLemmas.{as_missing, has_object, it_shrinks, none_answered, not_missing}
use Rattle.live_layers.proofs.RefusalLemmas.{begun_in_turn, passes_so, refuses_so}
use Rattle.live_layers.proofs.SpotLemmas.{spot_in}
use Rattle.live_layers.proofs.TurnLemmas.{delete_there}
use Rattle.live_layers.proofs.layers.Layers.delete_at.Goals as goal

pub returns-clause-keeps : goal.returns-clause-keeps
returns-clause-keeps g c =
    begun_keeps c.args.self.now c.object_of.new.self c.take_object.new.self c.in-Ok.ensures.keeps
    c.take_object.result c.take_object.ensures.begins c.change_of.result c.change_of.ensures
    c.in-Ok.ensures.keeps.trees.map.version

pub returns-clause-change : goal.returns-clause-change
returns-clause-change g c = λ t name sound reaches.
    let old = c.args.self.now in
    let mid = c.object_of.new.self in
    let id = c.args.id in
    let reply = c.in-Ok.ensures.replied t name sound reaches.located in
    let none = not_missing t name id reaches.named (Rose old mid) c.in-Ok.found.1 reply in
    let there = has_object (layer_at t name) id (Rose old mid) c.in-Ok.found.1 reply in
    let dims = reaches.located.dims ∙ c.requires.axes in
    let before = c.in-Ok.ensures.keeps.sound t sound in
    let spot = spot_in g.row.D old mid (c.in-Ok.ensures.keeps.trees.map.pages_stay sound.map.honest)
    c.in-Ok.ensures.keeps.trees.records c.args.place c.args.id c.in-Ok.found.0 c.args.located.now
    reaches.recorded (c.in-Ok.ensures.spot t sound) in
    begun_change old mid c.take_object.new.self c.in-Ok.ensures.keeps c.take_object.result
    c.take_object.ensures.begins c.change_of.result c.change_of.ensures t (Delete name id)
    (it_shrinks t name id reaches.named none) g.met.B.BlockDevice.only_now sound none refl
    (c.take_object.ensures.taken t name before reaches.finds dims there spot)
    (c.take_object.ensures.faults t name before reaches.finds dims there spot)

pub returns-clause-tree : goal.returns-clause-tree
returns-clause-tree g c = λ t name sound reaches.
    let old = c.args.self.now in
    let mid = c.object_of.new.self in
    let layer = layer_at t name in
    let id = c.args.id in
    let there =
    has_object layer id (Rose old mid) c.in-Ok.found.1
    (c.in-Ok.ensures.replied t name sound reaches.located) in
    let spot = spot_in g.row.D old mid (c.in-Ok.ensures.keeps.trees.map.pages_stay sound.map.honest)
    c.in-Ok.ensures.keeps.trees.records c.args.place c.args.id c.in-Ok.found.0 c.args.located.now
    reaches.recorded (c.in-Ok.ensures.spot t sound) in
    begun_tree old mid c.take_object.new.self c.in-Ok.ensures.keeps c.take_object.result
    c.take_object.ensures.begins c.change_of.result c.change_of.ensures t name (HasLost layer id) sound
    (c.take_object.ensures.tree t name (c.in-Ok.ensures.keeps.sound t sound) reaches.finds
    (reaches.located.dims ∙ c.requires.axes) there spot)

pub returns-in-Err-clause-keeps : goal.returns-in-Err-clause-keeps
returns-in-Err-clause-keeps g c =
    refused_keeps c.args.self.now c.object_of.new.self c.in-Err.refusal c.in-Err.ensures.keeps

pub returns-in-Err-clause-change : goal.returns-in-Err-clause-change
returns-in-Err-clause-change g c = λ t name sound reaches.
    let old = c.args.self.now in
    let new = c.object_of.new.self in
    let layer = layer_at t name in
    let id = c.args.id in
    let r = c.in-Err.refusal in
    let why =
    none_answered (Rose old new) (first_refusal (missing_refusals layer id)) (object_row layer id ∷ []) r
    (c.in-Err.ensures.replied t name sound reaches.located) in
    refused_change old new t (Delete name id) r g.met.B.BlockDevice.only_now c.in-Err.ensures.keeps sound
    (subst (λ (o : Option Refusal). (o ≡ Some r) ⊎ IsFault (Rose old new) r)
    (sym (as_missing t name id reaches.named)) why)

pub returns-clause-in_turn : goal.returns-clause-in_turn
returns-clause-in_turn g c = λ name its.
    let asked = refusals_in c.args.self.now (Delete name c.args.id) in
    begun_in_turn asked c.take_object.result c.change_of.result c.change_of.ensures
    (passes_so lost_refusals asked (delete_there c.args.self.now name c.args.place its c.args.id)
    c.in-Ok.ensures.in_turn)

pub returns-in-Err-clause-in_turn : goal.returns-in-Err-clause-in_turn
returns-in-Err-clause-in_turn g c = λ name its.
    refuses_so lost_refusals (refusals_in c.args.self.now (Delete name c.args.id))
    (delete_there c.args.self.now name c.args.place its c.args.id) c.in-Err.refusal c.in-Err.ensures.in_turn
