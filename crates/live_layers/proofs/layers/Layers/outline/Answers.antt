-- A name that no layer has is refused as the table refuses it, and else the nodes of the tree of its layer are
-- listed.
use Rattle.std.proofs.Common.{◌∙◌, [], arith}
use Rattle.plain_table.specs.Step.{layer_refusals}
use Rattle.live_layers.specs.Changes.{Rose}
use Rattle.live_layers.specs.Outlines.{ListsTree}
use Rattle.live_layers.proofs.TellingLemmas.{tells_fault, tells_refused}
use Rattle.live_layers.proofs.layers.Layers.outline.Goals as goal

pub returns-in_err-place-clause-listed : goal.returns-in_err-place-clause-listed
returns-in_err-place-clause-listed g c = λ t sound.
    let old = c.args.self.now in
    tells_refused (Rose old old) (layer_refusals t c.args.name.now []) (ListsTree old old t c.args.name.now)
    c.from_residual.result c.in_err-place.field-0.0 c.from_residual.ensures.1
    (c.in_err-place.ensures.unnamed t sound [])

pub returns-in_err-rows-clause-listed : goal.returns-in_err-rows-clause-listed
returns-in_err-rows-clause-listed g c = λ t sound.
    let old = c.args.self.now in
    let new = c.nodes_at.new.self in
    let name = c.args.name.now in
    let located = c.locate-located.ensures.located t name sound (c.in_ok-place.ensures.found t sound) in
    tells_fault (Rose old new) (layer_refusals t name []) (ListsTree old new t name) c.from_residual-in_err-rows.result
    c.in_err-rows.field-0.0 c.from_residual-in_err-rows.ensures.1
    (c.in_err-rows.ensures.fault t name sound located)

pub returns-in_err-rows-2-clause-listed : goal.returns-in_err-rows-2-clause-listed
returns-in_err-rows-2-clause-listed g c = λ t sound.
    let old = c.args.self.now in
    let new = c.nodes_at-else-located-eq2.new.self in
    let name = c.args.name.now in
    let located = c.locate-located.ensures.located t name sound (c.in_ok-place.ensures.found t sound) in
    tells_fault (Rose old new) (layer_refusals t name []) (ListsTree old new t name) c.from_residual-in_err-rows-2.result
    c.in_err-rows-2.field-0.0 c.from_residual-in_err-rows-2.ensures.1
    (c.in_err-rows-2.ensures.fault t name sound located)

pub returns-in_ok-rows-clause-listed : goal.returns-in_ok-rows-clause-listed
returns-in_ok-rows-clause-listed g c = λ t sound.
    let name = c.args.name.now in
    let located = c.locate-located.ensures.located t name sound (c.in_ok-place.ensures.found t sound) in (
      c.in_ok-place.ensures.named t sound [],
      (located.dims ∙ c.if-located-eq2.true, c.in_ok-rows.ensures.listed t name sound located),
    )

pub returns-in_ok-rows-2-clause-listed : goal.returns-in_ok-rows-2-clause-listed
returns-in_ok-rows-2-clause-listed g c = λ t sound.
    let name = c.args.name.now in
    let located = c.locate-located.ensures.located t name sound (c.in_ok-place.ensures.found t sound) in (
      c.in_ok-place.ensures.named t sound [],
      (
        omega (
          arith,
          located.dims,
          c.locate-located.ensures.dims.0,
          c.locate-located.ensures.dims.1,
          c.if-located-eq2.false,
        ),
        c.in_ok-rows-2.ensures.listed t name sound located,
      ),
    )
