-- The objects are refused as a load of them is, or are joined.
use Rattle.std.proofs.Common.{◌≡◌, ◌∙◌, ℕ, Some, ap, ⊎_elim}
use Rattle.store_law.specs.Lawful.{IsFault}
use Rattle.id_words.specs.Objects.{pairs_in}
use Rattle.plain_table.specs.Step.{first_refusal}
use Rattle.plain_table.specs.Table.{layer_at}
use Rattle.live_layers.specs.Changes.{Rose}
use Rattle.live_layers.specs.Loading.{boxes_refusals}
use Rattle.live_layers.specs.Questions.{HasPairs}
use Rattle.live_layers.proofs.LoadLemmas.{only_memory}
use Rattle.live_layers.proofs.TellingLemmas.{tells, tells_fault, tells_refused}
use Rattle.live_layers.proofs.layers.Layers.pairs_with.Goals as goal

pub returns-in_err-entries-clause-told : goal.returns-in_err-entries-clause-told
returns-in_err-entries-clause-told g c = λ t name sound located.
    let old = c.args.self.now in
    let given = c.args.objects.now in
    let layer = layer_at t name in
    let r = c.in_err-entries.field-0.0 in
    let result = c.from_residual.result in
    let is = c.from_residual.ensures.1 in
    let refusals = boxes_refusals layer.dims given in
    let Told = HasPairs given layer c.args.within in
    ⊎_elim
    (λ (why : first_refusal (boxes_refusals g.row.D given) ≡ Some r).
    tells_refused (Rose old old) refusals Told result r is
    (ap (λ (d : ℕ). first_refusal (boxes_refusals d given)) (located.dims ∙ c.requires.axes) ∙ why))
    (λ (fault : IsFault ⊥ r). tells_fault (Rose old old) refusals Told result r is
    (only_memory (Rose old old) r fault))
    c.in_err-entries.ensures.allowed

pub returns-clause-told : goal.returns-clause-told
returns-clause-told g c = λ t name sound located.
    let given = c.args.objects.now in
    let layer = layer_at t name in
    let same = ap pairs_in c.as_slice.ensures.value ∙ c.in_ok-entries.ensures.given in
    tells (Rose c.args.self.now c.pairs_beside.new.self) (boxes_refusals layer.dims given)
    (HasPairs given layer c.args.within) c.pairs_beside.result
    (ap (λ (d : ℕ). first_refusal (boxes_refusals d given)) (located.dims ∙ c.requires.axes)
    ∙ c.in_ok-entries.ensures.allowed)
    (c.pairs_beside.ensures.pairs t name given sound located same)
    (c.pairs_beside.ensures.fault t name sound located)

pub returns-clause-looks : goal.returns-clause-looks
returns-clause-looks g c = λ t name sound located.
    c.pairs_beside.ensures.looks t name c.args.objects.now sound located
    (ap pairs_in c.as_slice.ensures.value ∙ c.in_ok-entries.ensures.given)
