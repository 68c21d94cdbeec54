-- The record of the layer says how many objects it has.
use Rattle.std.proofs.Common.{◌≡◌, ◌∙◌, List, false, get_or, ap, inl, sym}
use Rattle.catalog_page.specs.declared.layer_record.LayerRecord.{LayerRecord}
use Rattle.plain_table.specs.Commands.Command.{Count}
use Rattle.plain_table.specs.Step.{refused_or}
use Rattle.plain_table.specs.Step.Answer.{Counted}
use Rattle.plain_table.specs.declared.refusal.Refusal.{Refusal}
use Rattle.plain_table.specs.Table.{layer_at}
use Rattle.std.specs.FinMap.{len}
use Rattle.std.specs.Prelude.{Option, []}
use Rattle.live_layers.proofs.ReplyLemmas.{err_count, refused}
use Rattle.live_layers.proofs.LocateLemmas.{count_here}
use Rattle.live_layers.specs.Refusals.{refusals_in}
use Rattle.live_layers.proofs.RefusalLemmas.{the_refusal}
use Rattle.live_layers.proofs.TurnLemmas.{count_unrecorded}
use Rattle.live_layers.proofs.layers.Layers.count.Goals as goal

pub returns-in_err-place-clause-answered : goal.returns-in_err-place-clause-answered
returns-in_err-place-clause-answered g c = λ t sound.
    let r = c.in_err-place.field-0.0 in
    err_count c.from_residual.result r c.from_residual.ensures.1
    ∙ refused t (Count c.args.name.now) r (c.in_err-place.ensures.unnamed t sound [])

pub returns-clause-answered : goal.returns-clause-answered
returns-clause-answered g c = λ t sound.
    let kept = c.args.self.now in
    let name = c.args.name.now in
    let place = c.in_ok-place.place in
    let r = c.index-deref-place.result in
    let items : c.deref.result.now ≡ kept.records.items = c.deref.ensures.0 in
    let is : r ≡ get_or kept.records.items place r = c.index-deref-place.is
    ∙ ap (λ (xs : List LayerRecord). get_or xs place r) items in
    let finds = c.in_ok-place.ensures.found t sound in
    ap (λ (x : LayerRecord). Counted x.count) (sym c.index-deref-place.is)
    ∙ ap Counted (sym (count_here kept t name place sound finds r is))
    ∙ ap (λ (o : Option Refusal). refused_or o (Counted (len (layer_at t name).objects)))
    (sym (c.in_ok-place.ensures.named t sound []))

pub returns-in_err-place-clause-in_turn : goal.returns-in_err-place-clause-in_turn
returns-in_err-place-clause-in_turn g c =
    let kept = c.args.self.now in
    let r = c.in_err-place.field-0.0 in
    the_refusal (refusals_in kept (Count c.args.name.now)) c.from_residual.result r c.from_residual.ensures.1
    (inl (count_unrecorded kept c.args.name.now r c.in_err-place.ensures.unrecorded))

pub returns-clause-in_turn : goal.returns-clause-in_turn
returns-clause-in_turn g c = (false, c.in_ok-place.ensures.recorded.passes [])
