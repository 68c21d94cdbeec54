-- What is not allowed is refused, and an object that is allowed is added.
use Rattle.std.proofs.Common.{◌≡◌, ◌∙◌, nat_le, Option, Some, refl, sym, subst}
use Rattle.std.specs.Prelude.{◌⊎◌, OnOk}
use Rattle.std.specs.FinMap.{insert as map_insert}
use Rattle.box_math.specs.Bounds.{Bounds}
use Rattle.plain_table.specs.Boxes.{given_bounds}
use Rattle.plain_table.specs.Commands.Command.{Insert}
use Rattle.plain_table.specs.Table.{layer_at, most_objects, object_count, with_object}
use Rattle.plain_table.specs.declared.refusal.Refusal.{Refusal}
use Rattle.plain_table.proofs.StepLemmas.{object_passes}
use Rattle.store_law.specs.Lawful.{IsFault}
use Rattle.live_layers.specs.Changes.{Rose}
use Rattle.live_layers.specs.Keeping.{ChangesTree, IsSound, count_in}
use Rattle.live_layers.specs.Refusals.{found_refusals, refusals_in}
use Rattle.live_layers.specs.Rules.{HasGained}
use Rattle.live_layers.proofs.ChangeLemmas.{begun_change, begun_keeps, begun_tree, refused_change}
use Rattle.live_layers.proofs.ChangeLemmas.{refused_keeps}
use Rattle.live_layers.proofs.InsertLemmas.{as_object, it_grows, its_dims}
use Rattle.live_layers.proofs.RefusalLemmas.{begun_in_turn, passes_so, refuses_so}
use Rattle.live_layers.proofs.Results.{on_ok}
use Rattle.live_layers.proofs.SpotLemmas.{spot_in}
use Rattle.live_layers.proofs.TurnLemmas.{insert_there}
use Rattle.live_layers.proofs.layers.Layers.insert_box.Goals as goal

pub returns-clause-keeps : goal.returns-clause-keeps
returns-clause-keeps g c =
    begun_keeps c.args.self.now c.check_object.new.self c.add_object.new.self c.in-Ok.ensures.keeps
    c.add_object.result c.add_object.ensures.begins c.change_of.result c.change_of.ensures
    c.in-Ok.ensures.keeps.trees.map.version

pub returns-clause-change : goal.returns-clause-change
returns-clause-change g c = λ t name box sound reaches.
    let layer = layer_at t name in
    let full = nat_le most_objects (object_count t) in
    let id = c.args.label.id in
    let located = c.locate-located.ensures.located t name sound reaches.finds in
    let none = c.in-Ok.ensures.allowed t name box sound located reaches.axes reaches.given in
    let absent = (object_passes layer id box full none).0 in
    let dims = its_dims layer id box full none ∙ reaches.axes in
    let before = c.in-Ok.ensures.keeps.sound t sound in
    let new = c.add_object.new.self in
    let made = c.add_object.result in
    let spot = spot_in g.row.D c.args.self.now c.check_object.new.self
    (c.in-Ok.ensures.keeps.trees.map.pages_stay sound.map.honest) c.in-Ok.ensures.keeps.trees.records
    c.args.place id c.in-Ok.found.0 c.locate-located.result c.locate-located.ensures.by_record
    (c.in-Ok.ensures.spot t sound) in
    let added =
    on_ok made
    (λ there. subst
    (λ (b : Bounds). IsSound new (map_insert t name (with_object layer id (b, c.args.label.tag))))
    (c.in-Ok.ensures.bounds ∙ sym reaches.given) there)
    (c.add_object.ensures.added t name before reaches.finds dims absent spot) in
    let refused = as_object t name c.args.place id box c.args.label.tag g.row.D _ reaches ∙ none in
    begun_change c.args.self.now c.check_object.new.self new c.in-Ok.ensures.keeps made
    c.add_object.ensures.begins c.change_of.result c.change_of.ensures t (Insert name id box c.args.label.tag)
    (it_grows t name c.args.place id box c.args.label.tag g.row.D _ reaches refused absent)
    g.met.B.BlockDevice.only_now sound refused refl added
    (c.add_object.ensures.faults t name before reaches.finds dims spot)

pub returns-clause-tree : goal.returns-clause-tree
returns-clause-tree g c = λ t name box sound reaches.
    let layer = layer_at t name in
    let full = nat_le most_objects (object_count t) in
    let id = c.args.label.id in
    let located = c.locate-located.ensures.located t name sound reaches.finds in
    let none = c.in-Ok.ensures.allowed t name box sound located reaches.axes reaches.given in
    let absent = (object_passes layer id box full none).0 in
    let dims = its_dims layer id box full none ∙ reaches.axes in
    let mid = c.check_object.new.self in
    let new = c.add_object.new.self in
    let spot = spot_in g.row.D c.args.self.now c.check_object.new.self
    (c.in-Ok.ensures.keeps.trees.map.pages_stay sound.map.honest) c.in-Ok.ensures.keeps.trees.records
    c.args.place id c.in-Ok.found.0 c.locate-located.result c.locate-located.ensures.by_record
    (c.in-Ok.ensures.spot t sound) in
    let there =
    subst (λ (b : Bounds). OnOk c.add_object.result
    (ChangesTree mid new name (HasGained layer id (b, c.args.label.tag))))
    (c.in-Ok.ensures.bounds ∙ sym reaches.given)
    (c.add_object.ensures.tree t name (c.in-Ok.ensures.keeps.sound t sound) reaches.finds dims absent
    spot) in
    begun_tree c.args.self.now mid new c.in-Ok.ensures.keeps c.add_object.result c.add_object.ensures.begins
    c.change_of.result c.change_of.ensures t name (HasGained layer id (given_bounds box, c.args.label.tag))
    sound there

pub returns-in-Err-clause-keeps : goal.returns-in-Err-clause-keeps
returns-in-Err-clause-keeps g c =
    refused_keeps c.args.self.now c.check_object.new.self c.in-Err.refusal c.in-Err.ensures.keeps

pub returns-in-Err-clause-change : goal.returns-in-Err-clause-change
returns-in-Err-clause-change g c = λ t name box sound reaches.
    let old = c.args.self.now in
    let new = c.check_object.new.self in
    let id = c.args.label.id in
    let r = c.in-Err.refusal in
    let why =
    c.in-Err.ensures.allowed t name box sound
    (c.locate-located.ensures.located t name sound reaches.finds) reaches.axes reaches.given in
    refused_change old new t (Insert name id box c.args.label.tag) r g.met.B.BlockDevice.only_now
    c.in-Err.ensures.keeps sound
    (subst (λ (o : Option Refusal). (o ≡ Some r) ⊎ IsFault (Rose old new) r)
    (sym (as_object t name c.args.place id box c.args.label.tag g.row.D _ reaches)) why)

pub returns-clause-in_turn : goal.returns-clause-in_turn
returns-clause-in_turn g c = λ name box its axes given.
    let old = c.args.self.now in
    let there = c.locate-located.result in
    let asked = refusals_in old (Insert name c.args.label.id box c.args.label.tag) in
    begun_in_turn asked c.add_object.result c.change_of.result c.change_of.ensures
    (passes_so (found_refusals there.dims box (nat_le most_objects (count_in old))) asked
    (insert_there old name c.args.place its there c.locate-located.ensures.by_record c.args.label.id box
    c.args.label.tag) (c.in-Ok.ensures.in_turn box axes given))

pub returns-in-Err-clause-in_turn : goal.returns-in-Err-clause-in_turn
returns-in-Err-clause-in_turn g c = λ name box its axes given.
    let old = c.args.self.now in
    let there = c.locate-located.result in
    refuses_so (found_refusals there.dims box (nat_le most_objects (count_in old)))
    (refusals_in old (Insert name c.args.label.id box c.args.label.tag))
    (insert_there old name c.args.place its there c.locate-located.ensures.by_record c.args.label.id box
    c.args.label.tag) c.in-Err.refusal (c.in-Err.ensures.in_turn box axes given)
