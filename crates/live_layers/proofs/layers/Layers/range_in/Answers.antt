-- The query is refused as the table refuses it, or what is found in the tree is its answer.
use Rattle.std.proofs.Common.{◌≡◌, ◌∙◌, ℕ, Bool, false, inl, inr, refl, map as each}
use Rattle.std.specs.FinMap.{entries}
use Rattle.std.specs.Prelude.{◌&&◌, filter}
use Rattle.box_math.specs.Objects.{Object, bounds_of, has_tag}
use Rattle.box_math.specs.Queries.{seeks}
use Rattle.plain_table.specs.Answers.{row_of}
use Rattle.plain_table.specs.Step.{first_refusal, query_refusals, range_rows}
use Rattle.plain_table.specs.Step.Answer.{Boxes}
use Rattle.plain_table.specs.Table.{layer_at}
use Rattle.plain_table.specs.declared.refusal.Refusal.TheVariants as refusal
use Rattle.live_layers.specs.Changes.{Rose}
use Rattle.live_layers.proofs.ReplyLemmas.{err_boxes, looks_same, reply_failed, rows_replied}
use Rattle.live_layers.proofs.RefusalLemmas.{the_refusal}
use Rattle.live_layers.proofs.layers.Layers.range_in.Goals as goal

pub returns-in_err-rows-clause-replied : goal.returns-in_err-rows-clause-replied
returns-in_err-rows-clause-replied g c = λ t name sound located.
    let r = c.in_err-rows.field-0.0 in
    let layer = layer_at t name in
    reply_failed (Rose c.args.self.now c.seek.new.self)
    (first_refusal (query_refusals layer.dims c.args.query))
    (Boxes (range_rows layer c.args.query c.args.tag)) _ r
    (c.in_err-rows.ensures.fault t name sound located)
    (err_boxes c.from_residual-in_err-rows.result r c.from_residual-in_err-rows.ensures.1)

pub returns-clause-replied : goal.returns-clause-replied
returns-clause-replied g c = λ t name sound located.
    let layer = layer_at t name in
    let asked = c.in_ok-asked.asked in
    let shown = c.in_ok-shown_rows.field-0.items in
    let found : each row_of shown ≡ filter
    (λ (row : ℕ × Object). seeks asked (bounds_of row.1) && has_tag c.args.tag row.1)
    (entries layer.objects) =
    c.in_ok-shown_rows.ensures ∙ c.deref.ensures.value
    ∙ c.in_ok-rows.ensures.rows t name sound located in
    rows_replied g.row.D (Rose c.args.self.now c.seek.new.self) layer c.args.query asked c.args.tag
    (each row_of shown) (located.dims ∙ c.requires) c.in_ok-asked.ensures.0 c.in_ok-asked.ensures.1 found

pub returns-clause-looks : goal.returns-clause-looks
returns-clause-looks g c = λ t name sound located.
    looks_same g.row.D c.args.self.now _ name (layer_at t name) c.args.query c.in_ok-asked.asked
    (located.dims ∙ c.requires) c.in_ok-asked.ensures.1 (c.in_ok-rows.ensures.looks t name sound located)

pub returns-in_err-asked-clause-in_turn : goal.returns-in_err-asked-clause-in_turn
returns-in_err-asked-clause-in_turn g c =
    the_refusal (λ (found : Bool). query_refusals g.row.D c.args.query) c.from_residual.result
    c.in_err-asked.field-0.0 c.from_residual.ensures.1 (inl (false, c.in_err-asked.ensures))

pub returns-in_err-rows-clause-in_turn : goal.returns-in_err-rows-clause-in_turn
returns-in_err-rows-clause-in_turn g c =
    the_refusal (λ (found : Bool). query_refusals g.row.D c.args.query) c.from_residual-in_err-rows.result
    c.in_err-rows.field-0.0 c.from_residual-in_err-rows.ensures.1 (inr c.in_err-rows.ensures.of_none)

pub returns-in_err-shown_rows-clause-in_turn : goal.returns-in_err-shown_rows-clause-in_turn
returns-in_err-shown_rows-clause-in_turn g c =
    the_refusal (λ (found : Bool). query_refusals g.row.D c.args.query)
    c.from_residual-in_err-shown_rows.result refusal.Memory c.from_residual-in_err-shown_rows.ensures.1
    (inr (refl, refl))

pub returns-clause-in_turn : goal.returns-clause-in_turn
returns-clause-in_turn g c = (false, c.in_ok-asked.ensures.0)
