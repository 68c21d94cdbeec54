-- The query is refused as the table refuses it, or what is found in the tree is its answer, in some order.
use Rattle.std.proofs.Common.{◌∙◌, ◌&&◌, ℕ, List, ap, subst, sym, map as each}
use Rattle.std.specs.FinMap.{entries}
use Rattle.std.specs.Prelude.{IsPermutation, filter}
use Rattle.box_math.specs.Objects.{Object, bounds_of, has_tag}
use Rattle.box_math.specs.Queries.{seeks}
use Rattle.plain_table.specs.Answers.{row_of}
use Rattle.plain_table.specs.Step.{first_refusal, query_refusals}
use Rattle.plain_table.specs.Table.{layer_at}
use Rattle.live_layers.specs.Changes.{Rose}
use Rattle.live_layers.specs.Questions.{HasRows}
use Rattle.live_layers.proofs.ReplyLemmas.{looks_same, rows_sought}
use Rattle.live_layers.proofs.TellingLemmas.{tells_fault, tells_refused}
use Rattle.live_layers.proofs.layers.Layers.unordered_in.Goals as goal

pub returns-in_err-asked-clause-told : goal.returns-in_err-asked-clause-told
returns-in_err-asked-clause-told g c = λ t name sound located.
    let old = c.args.self.now in
    let r = c.in_err-asked.field-0.0 in
    let layer = layer_at t name in
    tells_refused (Rose old old) (query_refusals layer.dims c.args.query) (HasRows layer c.args.query c.args.tag)
    c.from_residual.result r c.from_residual.ensures.1
    (ap (λ (d : ℕ). first_refusal (query_refusals d c.args.query)) (located.dims ∙ c.requires)
    ∙ c.in_err-asked.ensures)

pub returns-in_err-rows-clause-told : goal.returns-in_err-rows-clause-told
returns-in_err-rows-clause-told g c = λ t name sound located.
    let layer = layer_at t name in
    tells_fault (Rose c.args.self.now c.seek_unordered.new.self) (query_refusals layer.dims c.args.query)
    (HasRows layer c.args.query c.args.tag) c.from_residual-in_err-rows.result c.in_err-rows.field-0.0
    c.from_residual-in_err-rows.ensures.1 (c.in_err-rows.ensures.fault t name sound located)

pub returns-clause-told : goal.returns-clause-told
returns-clause-told g c = λ t name sound located.
    let layer = layer_at t name in
    let asked = c.in_ok-asked.asked in
    let dims = located.dims ∙ c.requires in
    let shown = c.in_ok-shown_rows.field-0.items in (
      ap (λ (d : ℕ). first_refusal (query_refusals d c.args.query)) dims ∙ c.in_ok-asked.ensures.0,
      rows_sought g.row.D layer c.args.query asked c.args.tag (each row_of shown) dims c.in_ok-asked.ensures.1
          (subst
          (λ (rows : List (ℕ × Object)). IsPermutation
          (filter (λ (row : ℕ × Object). seeks asked (bounds_of row.1) && has_tag c.args.tag row.1)
          (entries layer.objects)) rows)
          (sym (c.in_ok-shown_rows.ensures ∙ c.deref.ensures.value))
          (c.in_ok-rows.ensures.rows t name sound located)),
    )

pub returns-clause-looks : goal.returns-clause-looks
returns-clause-looks g c = λ t name sound located.
    looks_same g.row.D c.args.self.now _ name (layer_at t name) c.args.query c.in_ok-asked.asked
    (located.dims ∙ c.requires) c.in_ok-asked.ensures.1 (c.in_ok-rows.ensures.looks t name sound located)
