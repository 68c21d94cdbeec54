-- Each refusal is the table's, and nothing refuses the box of an object that is answered.
use Rattle.std.proofs.Common.{◌≡◌, ◌∙◌, [], ◌∷◌, true, false, Bool, Option, Some, refl, sym, ap, subst, inl}
use Rattle.std.specs.Prelude.{◌==◌, ◌⊎◌, is_some}
use Rattle.plain_table.specs.Boxes.{dims_of, given_bounds, is_ordered}
use Rattle.plain_table.specs.Step.{box_refusals, first_refusal, missing_refusals, object_row}
use Rattle.plain_table.specs.Table.{layer_at, object_at}
use Rattle.plain_table.specs.declared.refusal.Refusal.{Refusal}
use Rattle.store_law.specs.Lawful.{IsFault}
use Rattle.live_layers.specs.Changes.{Rose}
use Rattle.live_layers.specs.Refusals.{lost_refusals}
use Rattle.live_layers.proofs.AskLemmas.{tested_other, tested_same}
use Rattle.live_layers.proofs.DeleteLemmas.{object_answered, has_object, none_answered}
use Rattle.live_layers.proofs.MoveLemmas.{good_box}
use Rattle.live_layers.proofs.RefusalLemmas.{box_passes, other_axes, passes_so, refuses_so, unordered}
use Rattle.live_layers.proofs.layers.Layers.check_move.Goals as goal

pub returns-in-Ok-clause-allowed : goal.returns-in-Ok-clause-allowed
returns-in-Ok-clause-allowed g c = λ t name box sound located axes given.
    let there = c.args.located.now in
    let layer = layer_at t name in
    let id = c.args.id in
    let right : (dims_of box == layer.dims) ≡ true =
    tested_same (dims_of box) layer.dims there.dims located.dims
    ((sym c.from.ensures ∙ c.if-from.false) ∙ sym axes) in
    let test : is_ordered (dims_of box) (given_bounds box) ≡ is_some c.try_new.result =
    (λ i. is_ordered (axes i) (given i)) ∙ sym c.try_new.ensures.test in
    good_box layer id box right (test ∙ ap is_some c.in-Some.is)
    ∙ (object_answered (Rose c.args.self.now c.object_of.new.self)
    (first_refusal (missing_refusals layer id)) id (object_at layer id) c.in-Ok.known
    (c.in-Ok.ensures.replied t name sound located)).0

pub returns-in-Ok-clause-has : goal.returns-in-Ok-clause-has
returns-in-Ok-clause-has g c =
    λ t name sound located. has_object (layer_at t name) c.args.id
    (Rose c.args.self.now c.object_of.new.self) c.in-Ok.known (c.in-Ok.ensures.replied t name sound located)

pub returns-in-Err-clause-allowed : goal.returns-in-Err-clause-allowed
returns-in-Err-clause-allowed g c = λ t name box sound located axes given.
    let there = c.args.located.now in
    let layer = layer_at t name in
    let id = c.args.id in
    let rose = Rose c.args.self.now c.object_of.new.self in
    let right : (dims_of box == layer.dims) ≡ true =
    tested_same (dims_of box) layer.dims there.dims located.dims
    ((sym c.from.ensures ∙ c.if-from.false) ∙ sym axes) in
    let test : is_ordered (dims_of box) (given_bounds box) ≡ is_some c.try_new.result =
    (λ i. is_ordered (axes i) (given i)) ∙ sym c.try_new.ensures.test in
    subst (λ (o : Option Refusal). (o ≡ Some c.in-Err.refusal) ⊎ IsFault rose c.in-Err.refusal)
    (sym (good_box layer id box right (test ∙ ap is_some c.in-Some.is)))
    (none_answered rose (first_refusal (missing_refusals layer id)) (object_row layer id ∷ [])
    c.in-Err.refusal (c.in-Err.ensures.replied t name sound located))

pub returns-then-from-clause-in_turn : goal.returns-then-from-clause-in_turn
returns-then-from-clause-in_turn g c = λ box axes given.
    let dims = c.args.located.now.dims in
    inl (
      false,
      other_axes dims box
          (tested_other (dims_of box) dims dims refl (λ e. c.if-from.true (c.from.ensures ∙ e ∙ axes))) (lost_refusals false),
    )

pub returns-in_default-clause-in_turn : goal.returns-in_default-clause-in_turn
returns-in_default-clause-in_turn g c = λ box axes given.
    let dims = c.args.located.now.dims in
    let its : dims ≡ g.row.D = sym c.from.ensures ∙ c.if-from.false in
    let test : is_ordered (dims_of box) (given_bounds box) ≡ is_some c.try_new.result =
    (λ i. is_ordered (axes i) (given i)) ∙ sym c.try_new.ensures.test in
    inl (
      false,
      unordered dims box (tested_same (dims_of box) dims dims refl (its ∙ sym axes))
          (test ∙ ap is_some c.in_default.is) (lost_refusals false),
    )

pub returns-in-Ok-clause-in_turn : goal.returns-in-Ok-clause-in_turn
returns-in-Ok-clause-in_turn g c = λ box axes given.
    let dims = c.args.located.now.dims in
    let its : dims ≡ g.row.D = sym c.from.ensures ∙ c.if-from.false in
    let test : is_ordered (dims_of box) (given_bounds box) ≡ is_some c.try_new.result =
    (λ i. is_ordered (axes i) (given i)) ∙ sym c.try_new.ensures.test in
    passes_so lost_refusals (λ (found : Bool). box_refusals dims box (lost_refusals found))
    (λ found. box_passes dims box (tested_same (dims_of box) dims dims refl (its ∙ sym axes))
    (test ∙ ap is_some c.in-Some.is) (lost_refusals found)) c.in-Ok.ensures.in_turn

pub returns-in-Err-clause-in_turn : goal.returns-in-Err-clause-in_turn
returns-in-Err-clause-in_turn g c = λ box axes given.
    let dims = c.args.located.now.dims in
    let its : dims ≡ g.row.D = sym c.from.ensures ∙ c.if-from.false in
    let test : is_ordered (dims_of box) (given_bounds box) ≡ is_some c.try_new.result =
    (λ i. is_ordered (axes i) (given i)) ∙ sym c.try_new.ensures.test in
    refuses_so lost_refusals (λ (found : Bool). box_refusals dims box (lost_refusals found))
    (λ found. box_passes dims box (tested_same (dims_of box) dims dims refl (its ∙ sym axes))
    (test ∙ ap is_some c.in-Some.is) (lost_refusals found)) c.in-Err.refusal c.in-Err.ensures.in_turn
