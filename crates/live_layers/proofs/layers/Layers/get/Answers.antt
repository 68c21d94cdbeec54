-- A name that no layer has is refused as the table refuses it.
use Rattle.std.proofs.Common.{◌∙◌, inl}
use Rattle.plain_table.specs.Commands.Command.{Get}
use Rattle.plain_table.specs.Step.{missing_refusals}
use Rattle.plain_table.specs.Table.{layer_at}
use Rattle.live_layers.proofs.ReplyLemmas.{err_object, refused}
use Rattle.live_layers.specs.Refusals.{lost_refusals, refusals_in}
use Rattle.live_layers.proofs.RefusalLemmas.{passes_so, refuses_so, the_refusal}
use Rattle.live_layers.proofs.TurnLemmas.{get_there, get_unrecorded}
use Rattle.live_layers.proofs.layers.Layers.get.Goals as goal

pub returns-in_err-place-clause-answered : goal.returns-in_err-place-clause-answered
returns-in_err-place-clause-answered g c = λ t sound.
    let name = c.args.name.now in
    let id = c.args.id in
    let r = c.in_err-place.field-0.0 in (
      sound,
      inl
          (err_object id c.from_residual.result r c.from_residual.ensures.1
          ∙ refused t (Get name id) r
          (c.in_err-place.ensures.unnamed t sound (missing_refusals (layer_at t name) id))),
    )

pub returns-in_err-place-clause-in_turn : goal.returns-in_err-place-clause-in_turn
returns-in_err-place-clause-in_turn g c =
    let old = c.args.self.now in
    let r = c.in_err-place.field-0.0 in
    the_refusal (refusals_in old (Get c.args.name.now c.args.id)) c.from_residual.result r
    c.from_residual.ensures.1
    (inl (get_unrecorded old c.args.name.now r c.in_err-place.ensures.unrecorded c.args.id))

pub returns-in_err-kept-clause-in_turn : goal.returns-in_err-kept-clause-in_turn
returns-in_err-kept-clause-in_turn g c =
    let old = c.args.self.now in
    let asked = refusals_in old (Get c.args.name.now c.args.id) in
    let r = c.in_err-kept.field-0.0 in
    the_refusal asked c.from_residual-in_err-kept.result r c.from_residual-in_err-kept.ensures.1
    (refuses_so lost_refusals asked
    (get_there old c.args.name.now c.in_ok-place.place c.in_ok-place.ensures.recorded c.args.id) r
    c.in_err-kept.ensures.in_turn)

pub returns-in_ok-kept-clause-in_turn : goal.returns-in_ok-kept-clause-in_turn
returns-in_ok-kept-clause-in_turn g c =
    let old = c.args.self.now in
    passes_so lost_refusals (refusals_in old (Get c.args.name.now c.args.id))
    (get_there old c.args.name.now c.in_ok-place.place c.in_ok-place.ensures.recorded c.args.id)
    c.in_ok-kept.ensures.in_turn

pub returns-in_err-kept-2-clause-in_turn : goal.returns-in_err-kept-2-clause-in_turn
returns-in_err-kept-2-clause-in_turn g c =
    let old = c.args.self.now in
    let asked = refusals_in old (Get c.args.name.now c.args.id) in
    let r = c.in_err-kept-2.field-0.0 in
    the_refusal asked c.from_residual-in_err-kept-2.result r c.from_residual-in_err-kept-2.ensures.1
    (refuses_so lost_refusals asked
    (get_there old c.args.name.now c.in_ok-place.place c.in_ok-place.ensures.recorded c.args.id) r
    c.in_err-kept-2.ensures.in_turn)

pub returns-in_ok-kept-2-clause-in_turn : goal.returns-in_ok-kept-2-clause-in_turn
returns-in_ok-kept-2-clause-in_turn g c =
    let old = c.args.self.now in
    passes_so lost_refusals (refusals_in old (Get c.args.name.now c.args.id))
    (get_there old c.args.name.now c.in_ok-place.place c.in_ok-place.ensures.recorded c.args.id)
    c.in_ok-kept-2.ensures.in_turn
