-- A name that no layer has is refused as the table refuses it, and else the pages of its layer are counted.
use Rattle.std.proofs.Common.{[]}
use Rattle.plain_table.specs.Step.{layer_refusals}
use Rattle.live_layers.specs.Changes.{Rose}
use Rattle.live_layers.specs.Outlines.{IsIdPages}
use Rattle.live_layers.proofs.TellingLemmas.{tells_named, tells_refused}
use Rattle.live_layers.proofs.layers.Layers.id_pages.Goals as goal

pub returns-in_err-place-clause-counted : goal.returns-in_err-place-clause-counted
returns-in_err-place-clause-counted g c = λ t sound.
    let old = c.args.self.now in
    tells_refused (Rose old old) (layer_refusals t c.args.name.now []) (IsIdPages old t c.args.name.now)
    c.from_residual.result
    c.in_err-place.field-0.0 c.from_residual.ensures.1 (c.in_err-place.ensures.unnamed t sound [])

pub returns-then-located-eq2-clause-counted : goal.returns-then-located-eq2-clause-counted
returns-then-located-eq2-clause-counted g c = λ t sound.
    let old = c.args.self.now in
    let name = c.args.name.now in
    let located = c.locate-located.ensures.located t name sound (c.in_ok-place.ensures.found t sound) in
    tells_named (Rose old c.id_pages_at.new.self) t name (IsIdPages old t name) c.id_pages_at.result
    (c.in_ok-place.ensures.named t sound) (c.id_pages_at.ensures.counted t name sound located)
    (c.id_pages_at.ensures.fault t name sound located)

pub returns-else-located-eq2-clause-counted : goal.returns-else-located-eq2-clause-counted
returns-else-located-eq2-clause-counted g c = λ t sound.
    let old = c.args.self.now in
    let name = c.args.name.now in
    let located = c.locate-located.ensures.located t name sound (c.in_ok-place.ensures.found t sound) in
    tells_named (Rose old c.id_pages_at-else-located-eq2.new.self) t name (IsIdPages old t name) c.id_pages_at-else-located-eq2.result
    (c.in_ok-place.ensures.named t sound) (c.id_pages_at-else-located-eq2.ensures.counted t name sound located)
    (c.id_pages_at-else-located-eq2.ensures.fault t name sound located)
