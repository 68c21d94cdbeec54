-- A name that no layer has is refused as the table refuses it, and else its layer is asked.
use Rattle.plain_table.specs.Table.{layer_at}
use Rattle.plain_table.specs.Step.{layer_refusals, query_refusals}
use Rattle.live_layers.specs.Questions.{HasRows}
use Rattle.live_layers.specs.Changes.{Rose}
use Rattle.live_layers.proofs.TellingLemmas.{tells_refused, tells_so}
use Rattle.live_layers.proofs.layers.Layers.range_unordered.Goals as goal

pub returns-in_err-place-clause-told : goal.returns-in_err-place-clause-told
returns-in_err-place-clause-told g c = λ t sound.
    let old = c.args.self.now in
    let name = c.args.name.now in
    tells_refused (Rose old old) (layer_refusals t name (query_refusals (layer_at t name).dims c.args.query)) (HasRows (layer_at t name) c.args.query c.args.tag)
    c.from_residual.result c.in_err-place.field-0.0 c.from_residual.ensures.1
    (c.in_err-place.ensures.unnamed t sound (query_refusals (layer_at t name).dims c.args.query))

pub returns-then-located-eq2-clause-told : goal.returns-then-located-eq2-clause-told
returns-then-located-eq2-clause-told g c = λ t sound.
    let name = c.args.name.now in
    let located = c.locate-located.ensures.located t name sound (c.in_ok-place.ensures.found t sound) in
    tells_so (Rose c.args.self.now c.unordered_in.new.self) (layer_refusals t name (query_refusals (layer_at t name).dims c.args.query)) (HasRows (layer_at t name) c.args.query c.args.tag)
    (query_refusals (layer_at t name).dims c.args.query) c.unordered_in.result (c.in_ok-place.ensures.named t sound (query_refusals (layer_at t name).dims c.args.query))
    (c.unordered_in.ensures.told t name sound located)

pub returns-then-located-eq2-clause-looks : goal.returns-then-located-eq2-clause-looks
returns-then-located-eq2-clause-looks g c = λ t sound.
    let name = c.args.name.now in
    c.unordered_in.ensures.looks t name sound
    (c.locate-located.ensures.located t name sound (c.in_ok-place.ensures.found t sound))

pub returns-else-located-eq2-clause-told : goal.returns-else-located-eq2-clause-told
returns-else-located-eq2-clause-told g c = λ t sound.
    let name = c.args.name.now in
    let located = c.locate-located.ensures.located t name sound (c.in_ok-place.ensures.found t sound) in
    tells_so (Rose c.args.self.now c.unordered_in-else-located-eq2.new.self) (layer_refusals t name (query_refusals (layer_at t name).dims c.args.query)) (HasRows (layer_at t name) c.args.query c.args.tag)
    (query_refusals (layer_at t name).dims c.args.query) c.unordered_in-else-located-eq2.result (c.in_ok-place.ensures.named t sound (query_refusals (layer_at t name).dims c.args.query))
    (c.unordered_in-else-located-eq2.ensures.told t name sound located)

pub returns-else-located-eq2-clause-looks : goal.returns-else-located-eq2-clause-looks
returns-else-located-eq2-clause-looks g c = λ t sound.
    let name = c.args.name.now in
    c.unordered_in-else-located-eq2.ensures.looks t name sound
    (c.locate-located.ensures.located t name sound (c.in_ok-place.ensures.found t sound))
