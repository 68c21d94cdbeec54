-- What is not allowed is refused; an object that has the box stays, and one that has another gets it.
use Rattle.std.proofs.Common.{◌≡◌, ◌∙◌, Bool, true, false, not, Option, refl, sym, ap, subst}
use Rattle.std.specs.Prelude.{Err, OnOk}
use Rattle.std.specs.FinMap.{insert as map_insert}
use Rattle.box_math.specs.Bounds.{Bounds}
use Rattle.box_math.specs.Objects.{Object, tag_of}
use Rattle.plain_table.specs.Boxes.{given_bounds}
use Rattle.plain_table.specs.Commands.Command.{Move}
use Rattle.plain_table.specs.Laws.{a_change_makes_another_table, no_change_leaves_the_table}
use Rattle.plain_table.specs.Step.{box_refusals, changes}
use Rattle.plain_table.specs.Table.{layer_at, object_at, with_object}
use Rattle.plain_table.specs.declared.refusal.Refusal.{Refusal}
use Rattle.live_layers.specs.Changes.{Rose}
use Rattle.live_layers.specs.Inserting.{IsAllowedOr}
use Rattle.live_layers.specs.Keeping.{ChangesTree, IsSound}
use Rattle.live_layers.specs.Refusals.{lost_refusals, refusals_in}
use Rattle.live_layers.specs.Rules.{HasMoved}
use Rattle.live_layers.proofs.ChangeLemmas.{begun_change, begun_keeps, begun_tree, refused_change}
use Rattle.live_layers.proofs.ChangeLemmas.{refused_keeps, unbegun_change, unbegun_keeps}
use Rattle.live_layers.proofs.MoveLemmas.{as_move, tested_boxes}
use Rattle.live_layers.proofs.RefusalLemmas.{begun_in_turn, passes_so, refuses_so}
use Rattle.live_layers.proofs.ReplyLemmas.{is_named}
use Rattle.live_layers.proofs.Results.{on_ok}
use Rattle.live_layers.proofs.SpotLemmas.{spot_in}
use Rattle.live_layers.proofs.TakeLemmas.{its_object}
use Rattle.live_layers.proofs.TurnLemmas.{move_there}
use Rattle.live_layers.proofs.layers.Layers.move_box.Goals as goal

pub returns-in-Err-clause-keeps : goal.returns-in-Err-clause-keeps
returns-in-Err-clause-keeps g c =
    refused_keeps c.args.self.now c.check_move.new.self c.in-Err.refusal c.in-Err.ensures.keeps

pub returns-in-Err-clause-change : goal.returns-in-Err-clause-change
returns-in-Err-clause-change g c = λ t name box sound reaches.
    let old = c.args.self.now in
    let new = c.check_move.new.self in
    let id = c.args.id in
    let r = c.in-Err.refusal in
    let why =
    c.in-Err.ensures.allowed t name box sound
    (c.locate-located.ensures.located t name sound reaches.finds) reaches.axes reaches.given in
    refused_change old new t (Move name id box) r g.met.B.BlockDevice.only_now c.in-Err.ensures.keeps sound
    (subst (λ (o : Option Refusal). IsAllowedOr {T = Unit {0}} (Rose old new) o (Err r))
    (sym (as_move t name id box (is_named t name c.args.place reaches.good reaches.finds))) why)

pub returns-then-eq-clause-keeps : goal.returns-then-eq-clause-keeps
returns-then-eq-clause-keeps g c = unbegun_keeps c.args.self.now c.check_move.new.self c.in-Ok.ensures.keeps

pub returns-then-eq-clause-change : goal.returns-then-eq-clause-change
returns-then-eq-clause-change g c = λ t name box sound reaches.
    let id = c.args.id in
    let located = c.locate-located.ensures.located t name sound reaches.finds in
    let named = is_named t name c.args.place reaches.good reaches.finds in
    let none = as_move t name id box named
    ∙ c.in-Ok.ensures.allowed t name box sound located reaches.axes reaches.given in
    let there = c.in-Ok.ensures.has t name sound located in
    let still : changes t (Move name id box) ≡ false =
    tested_boxes t name id box c.in-Ok.found.1 there none c.in-Ok.found.2
    (c.in-Ok.ensures.gets ∙ sym reaches.given) ∙ ap not (sym c.eq.ensures ∙ c.if-eq.true) in
    unbegun_change c.args.self.now c.check_move.new.self t (Move name id box) g.met.B.BlockDevice.only_now
    c.in-Ok.ensures.keeps sound none refl (no_change_leaves_the_table t (Move name id box) still)

pub returns-then-eq-clause-tree : goal.returns-then-eq-clause-tree
returns-then-eq-clause-tree g c = λ t name box sound reaches moves.
    let id = c.args.id in
    let located = c.locate-located.ensures.located t name sound reaches.finds in
    let named = is_named t name c.args.place reaches.good reaches.finds in
    let none = as_move t name id box named
    ∙ c.in-Ok.ensures.allowed t name box sound located reaches.axes reaches.given in
    let there = c.in-Ok.ensures.has t name sound located in
    let still : changes t (Move name id box) ≡ false =
    tested_boxes t name id box c.in-Ok.found.1 there none c.in-Ok.found.2
    (c.in-Ok.ensures.gets ∙ sym reaches.given) ∙ ap not (sym c.eq.ensures ∙ c.if-eq.true) in
    let no : true ≡ false = sym moves ∙ still in absurd (cc)

pub returns-clause-keeps : goal.returns-clause-keeps
returns-clause-keeps g c =
    begun_keeps c.args.self.now c.check_move.new.self c.replace_box.new.self c.in-Ok.ensures.keeps
    c.replace_box.result c.replace_box.ensures.begins c.change_of.result c.change_of.ensures
    c.in-Ok.ensures.keeps.trees.map.version

pub returns-clause-change : goal.returns-clause-change
returns-clause-change g c = λ t name box sound reaches.
    let old = c.args.self.now in
    let mid = c.check_move.new.self in
    let new = c.replace_box.new.self in
    let layer = layer_at t name in
    let id = c.args.id in
    let located = c.locate-located.ensures.located t name sound reaches.finds in
    let named = is_named t name c.args.place reaches.good reaches.finds in
    let none = as_move t name id box named
    ∙ c.in-Ok.ensures.allowed t name box sound located reaches.axes reaches.given in
    let there = c.in-Ok.ensures.has t name sound located in
    let known = c.in-Ok.found.1 in
    let given : c.in-Ok.found.2 ≡ given_bounds box = c.in-Ok.ensures.gets ∙ sym reaches.given in
    let moves : changes t (Move name id box) ≡ true =
    tested_boxes t name id box c.in-Ok.found.1 there none c.in-Ok.found.2 given
    ∙ ap not (sym c.eq.ensures ∙ c.if-eq.false) in
    let dims = located.dims ∙ c.in-Ok.ensures.axes in
    let before = c.in-Ok.ensures.keeps.sound t sound in
    let spot = spot_in g.row.D old mid (c.in-Ok.ensures.keeps.trees.map.pages_stay sound.map.honest)
    c.in-Ok.ensures.keeps.trees.records c.args.place id c.in-Ok.found.0 c.locate-located.result
    c.locate-located.ensures.by_record (c.in-Ok.ensures.spot t sound) in
    let made = c.replace_box.result in
    let same : (c.in-Ok.found.2, tag_of known) ≡ (given_bounds box, tag_of (object_at layer id)) =
    λ i. (given i, tag_of (its_object layer id known there i)) in
    let moved =
    on_ok made
    (λ so. subst (λ (o : Object). IsSound new (map_insert t name (with_object layer id o))) same so)
    (c.replace_box.ensures.replaced t name before reaches.finds dims there spot) in
    begun_change old mid new c.in-Ok.ensures.keeps made c.replace_box.ensures.begins c.change_of.result
    c.change_of.ensures t (Move name id box)
    (a_change_makes_another_table t (Move name id box) moves) g.met.B.BlockDevice.only_now sound none refl
    moved (c.replace_box.ensures.faults t name before reaches.finds dims there spot)

pub returns-clause-tree : goal.returns-clause-tree
returns-clause-tree g c = λ t name box sound reaches moves.
    let old = c.args.self.now in
    let mid = c.check_move.new.self in
    let new = c.replace_box.new.self in
    let layer = layer_at t name in
    let id = c.args.id in
    let located = c.locate-located.ensures.located t name sound reaches.finds in
    let there = c.in-Ok.ensures.has t name sound located in
    let given : c.in-Ok.found.2 ≡ given_bounds box = c.in-Ok.ensures.gets ∙ sym reaches.given in
    let spot = spot_in g.row.D old mid (c.in-Ok.ensures.keeps.trees.map.pages_stay sound.map.honest)
    c.in-Ok.ensures.keeps.trees.records c.args.place id c.in-Ok.found.0 c.locate-located.result
    c.locate-located.ensures.by_record (c.in-Ok.ensures.spot t sound) in
    let changed =
    subst (λ (b : Bounds). OnOk c.replace_box.result (ChangesTree mid new name (HasMoved layer id b)))
    given
    (c.replace_box.ensures.tree t name (c.in-Ok.ensures.keeps.sound t sound) reaches.finds
    (located.dims ∙ c.in-Ok.ensures.axes) there spot) in
    begun_tree old mid new c.in-Ok.ensures.keeps c.replace_box.result c.replace_box.ensures.begins
    c.change_of.result c.change_of.ensures t name (HasMoved layer id (given_bounds box)) sound changed

pub returns-clause-same : goal.returns-clause-same
returns-clause-same g c = λ t name box sound reaches still.
    let id = c.args.id in
    let located = c.locate-located.ensures.located t name sound reaches.finds in
    let named = is_named t name c.args.place reaches.good reaches.finds in
    let none = as_move t name id box named
    ∙ c.in-Ok.ensures.allowed t name box sound located reaches.axes reaches.given in
    let there = c.in-Ok.ensures.has t name sound located in
    let moves : changes t (Move name id box) ≡ true =
    tested_boxes t name id box c.in-Ok.found.1 there none c.in-Ok.found.2
    (c.in-Ok.ensures.gets ∙ sym reaches.given) ∙ ap not (sym c.eq.ensures ∙ c.if-eq.false) in
    let no : true ≡ false = sym moves ∙ still in absurd (cc)

pub returns-in-Err-clause-in_turn : goal.returns-in-Err-clause-in_turn
returns-in-Err-clause-in_turn g c = λ name box its axes given.
    let old = c.args.self.now in
    let there = c.locate-located.result in
    refuses_so (λ (found : Bool). box_refusals there.dims box (lost_refusals found))
    (refusals_in old (Move name c.args.id box))
    (move_there old name c.args.place its there c.locate-located.ensures.by_record c.args.id box)
    c.in-Err.refusal (c.in-Err.ensures.in_turn box axes given)

pub returns-then-eq-clause-in_turn : goal.returns-then-eq-clause-in_turn
returns-then-eq-clause-in_turn g c = λ name box its axes given.
    let old = c.args.self.now in
    let there = c.locate-located.result in
    passes_so (λ (found : Bool). box_refusals there.dims box (lost_refusals found))
    (refusals_in old (Move name c.args.id box))
    (move_there old name c.args.place its there c.locate-located.ensures.by_record c.args.id box)
    (c.in-Ok.ensures.in_turn box axes given)

pub returns-clause-in_turn : goal.returns-clause-in_turn
returns-clause-in_turn g c = λ name box its axes given.
    let old = c.args.self.now in
    let there = c.locate-located.result in
    let asked = refusals_in old (Move name c.args.id box) in
    begun_in_turn asked c.replace_box.result c.change_of.result c.change_of.ensures
    (passes_so (λ (found : Bool). box_refusals there.dims box (lost_refusals found)) asked
    (move_there old name c.args.place its there c.locate-located.ensures.by_record c.args.id box)
    (c.in-Ok.ensures.in_turn box axes given))
