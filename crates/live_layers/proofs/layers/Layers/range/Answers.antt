-- The nodes that are looked at are those of the tree of the layer that is named.
use Rattle.std.proofs.Common.{◌≡◌, Bool, arith, inl}
use Rattle.plain_table.specs.Commands.Command.{Range}
use Rattle.plain_table.specs.Step.{query_refusals}
use Rattle.live_layers.specs.Refusals.{refusals_in}
use Rattle.live_layers.proofs.RefusalLemmas.{the_refusal, tried_so}
use Rattle.live_layers.proofs.TurnLemmas.{range_there, range_unrecorded}
use Rattle.live_layers.proofs.layers.Layers.range.Goals as goal

pub returns-then-located-eq2-clause-looks : goal.returns-then-located-eq2-clause-looks
returns-then-located-eq2-clause-looks g c = λ t sound.
    let name = c.args.name.now in
    c.range_in.ensures.looks t name sound
    (c.locate-located.ensures.located t name sound (c.in_ok-place.ensures.found t sound))

pub returns-else-located-eq2-clause-looks : goal.returns-else-located-eq2-clause-looks
returns-else-located-eq2-clause-looks g c = λ t sound.
    let name = c.args.name.now in
    c.range_in-else-located-eq2.ensures.looks t name sound
    (c.locate-located.ensures.located t name sound (c.in_ok-place.ensures.found t sound))

pub returns-in_err-place-clause-in_turn : goal.returns-in_err-place-clause-in_turn
returns-in_err-place-clause-in_turn g c =
    let old = c.args.self.now in
    let r = c.in_err-place.field-0.0 in
    the_refusal (refusals_in old (Range c.args.name.now c.args.query c.args.tag)) c.from_residual.result r
    c.from_residual.ensures.1
    (inl (range_unrecorded old c.args.name.now r c.in_err-place.ensures.unrecorded c.args.query c.args.tag))

pub returns-then-located-eq2-clause-in_turn : goal.returns-then-located-eq2-clause-in_turn
returns-then-located-eq2-clause-in_turn g c =
    let old = c.args.self.now in
    tried_so (λ (found : Bool). query_refusals 2 c.args.query)
    (refusals_in old (Range c.args.name.now c.args.query c.args.tag))
    (range_there old c.args.name.now c.in_ok-place.place c.in_ok-place.ensures.recorded
    c.locate-located.result c.locate-located.ensures.by_record c.args.query c.args.tag 2
    c.if-located-eq2.true) c.range_in.result c.range_in.ensures.in_turn

pub returns-else-located-eq2-clause-in_turn : goal.returns-else-located-eq2-clause-in_turn
returns-else-located-eq2-clause-in_turn g c =
    let old = c.args.self.now in
    let is_3 : c.locate-located.result.dims ≡ 3 =
    omega (
      arith,
      c.locate-located.ensures.dims.0,
      c.locate-located.ensures.dims.1,
      c.if-located-eq2.false,
    ) in
    tried_so (λ (found : Bool). query_refusals 3 c.args.query)
    (refusals_in old (Range c.args.name.now c.args.query c.args.tag))
    (range_there old c.args.name.now c.in_ok-place.place c.in_ok-place.ensures.recorded
    c.locate-located.result c.locate-located.ensures.by_record c.args.query c.args.tag 3 is_3)
    c.range_in-else-located-eq2.result c.range_in-else-located-eq2.ensures.in_turn
