-- A name that no layer has is refused as the table refuses it, and the layer that is named answers for the
-- table.
use Rattle.std.proofs.Common.{◌∙◌, inl, subst, sym}
use Rattle.std.specs.Prelude.{OnOk}
use Rattle.nearest.specs.Nearest.{is_searched}
use Rattle.plain_table.specs.Answers.{distances_answer}
use Rattle.plain_table.specs.Boxes.{given_point, point_dims}
use Rattle.plain_table.specs.Commands.Command.{Nearest}
use Rattle.plain_table.specs.Step.{first_refusal, nearest_refusals, nearest_rows}
use Rattle.plain_table.specs.Table.{layer_at}
use Rattle.plain_table.specs.declared.boxes.RawPoint.{RawPoint}
use Rattle.plain_table.specs.declared.boxes.RawPoint.TheVariants as raw
use Rattle.tree_node.specs.Searches.{admitted}
use Rattle.live_layers.specs.Changes.{IsAnswered, Rose}
use Rattle.live_layers.specs.Keeping.{LooksAtTree}
use Rattle.live_layers.proofs.ReplyLemmas.{err_distances, refused, replied}
use Rattle.live_layers.specs.Refusals.{IsTried, refusals_in}
use Rattle.live_layers.proofs.RefusalLemmas.{of_nearest, the_refusal, tried_so}
use Rattle.live_layers.proofs.TurnLemmas.{nearest_there, nearest_unrecorded}
use Rattle.live_layers.proofs.layers.Layers.nearest.Goals as goal

pub returns-in_err-place-clause-answered : goal.returns-in_err-place-clause-answered
returns-in_err-place-clause-answered g c = λ t sound.
    let name = c.args.name.now in
    let k = c.args.k in
    let r = c.in_err-place.field-0.0 in (
      sound,
      inl
          (err_distances c.from_residual.result r c.from_residual.ensures.1
          ∙ refused t (Nearest name k c.args.point) r
          (c.in_err-place.ensures.unnamed t sound (nearest_refusals (layer_at t name).dims k c.args.point))),
    )

pub returns-in-Two-clause-answered : goal.returns-in-Two-clause-answered
returns-in-Two-clause-answered g c = λ t sound.
    let name = c.args.name.now in
    let k = c.args.k in
    let located = c.locate-located.ensures.located t name sound (c.in_ok-place.ensures.found t sound) in
    let p = raw.Two c.in-Two.point in
    subst (λ (point : RawPoint). IsAnswered c.args.self.now c.nearest_to.new.self t (Nearest name k point)
    (distances_answer c.nearest_to.result)) (sym c.in-Two.is) (
      c.nearest_to.ensures.keeps.sound t sound,
      replied (Rose c.args.self.now c.nearest_to.new.self) t (Nearest name k p)
          (first_refusal (nearest_refusals (layer_at t name).dims k p)) (distances_answer c.nearest_to.result)
          (c.in_ok-place.ensures.named t sound (nearest_refusals (layer_at t name).dims k p))
          (c.nearest_to.ensures.replied t name sound located),
    )

pub returns-in-Two-clause-looks : goal.returns-in-Two-clause-looks
returns-in-Two-clause-looks g c = λ t sound.
    let name = c.args.name.now in
    let k = c.args.k in
    let located = c.locate-located.ensures.located t name sound (c.in_ok-place.ensures.found t sound) in
    subst (λ (p : RawPoint). OnOk c.nearest_to.result
    (LooksAtTree c.args.self.now c.nearest_to.new.self name
    (admitted (is_searched (point_dims p) k (given_point p) (nearest_rows (layer_at t name) k p)))))
    (sym c.in-Two.is)
    (c.nearest_to.ensures.looks t name sound located)

pub returns-in-Three-clause-answered : goal.returns-in-Three-clause-answered
returns-in-Three-clause-answered g c = λ t sound.
    let name = c.args.name.now in
    let k = c.args.k in
    let located = c.locate-located.ensures.located t name sound (c.in_ok-place.ensures.found t sound) in
    let p = raw.Three c.in-Three.point in
    subst (λ (point : RawPoint). IsAnswered c.args.self.now c.nearest_to-in-Three.new.self t
    (Nearest name k point) (distances_answer c.nearest_to-in-Three.result)) (sym c.in-Three.is) (
      c.nearest_to-in-Three.ensures.keeps.sound t sound,
      replied (Rose c.args.self.now c.nearest_to-in-Three.new.self) t (Nearest name k p)
          (first_refusal (nearest_refusals (layer_at t name).dims k p))
          (distances_answer c.nearest_to-in-Three.result)
          (c.in_ok-place.ensures.named t sound (nearest_refusals (layer_at t name).dims k p))
          (c.nearest_to-in-Three.ensures.replied t name sound located),
    )

pub returns-in-Three-clause-looks : goal.returns-in-Three-clause-looks
returns-in-Three-clause-looks g c = λ t sound.
    let name = c.args.name.now in
    let k = c.args.k in
    let located = c.locate-located.ensures.located t name sound (c.in_ok-place.ensures.found t sound) in
    subst (λ (p : RawPoint). OnOk c.nearest_to-in-Three.result
    (LooksAtTree c.args.self.now c.nearest_to-in-Three.new.self name
    (admitted (is_searched (point_dims p) k (given_point p) (nearest_rows (layer_at t name) k p)))))
    (sym c.in-Three.is)
    (c.nearest_to-in-Three.ensures.looks t name sound located)

pub returns-in_err-place-clause-in_turn : goal.returns-in_err-place-clause-in_turn
returns-in_err-place-clause-in_turn g c =
    let old = c.args.self.now in
    let r = c.in_err-place.field-0.0 in
    the_refusal (refusals_in old (Nearest c.args.name.now c.args.k c.args.point)) c.from_residual.result r
    c.from_residual.ensures.1
    (inl (nearest_unrecorded old c.args.name.now r c.in_err-place.ensures.unrecorded c.args.k c.args.point))

pub returns-in-Two-clause-in_turn : goal.returns-in-Two-clause-in_turn
returns-in-Two-clause-in_turn g c =
    let old = c.args.self.now in
    let name = c.args.name.now in
    let k = c.args.k in
    let there = c.locate-located.result in
    let p = raw.Two c.in-Two.point in
    subst (λ (point : RawPoint). IsTried (refusals_in old (Nearest name k point)) c.nearest_to.result)
    (sym c.in-Two.is)
    (tried_so (of_nearest 2 there.dims k) (refusals_in old (Nearest name k p))
    (nearest_there old name c.in_ok-place.place c.in_ok-place.ensures.recorded there
    c.locate-located.ensures.by_record k p) c.nearest_to.result c.nearest_to.ensures.in_turn)

pub returns-in-Three-clause-in_turn : goal.returns-in-Three-clause-in_turn
returns-in-Three-clause-in_turn g c =
    let old = c.args.self.now in
    let name = c.args.name.now in
    let k = c.args.k in
    let there = c.locate-located.result in
    let p = raw.Three c.in-Three.point in
    subst (λ (point : RawPoint). IsTried (refusals_in old (Nearest name k point))
    c.nearest_to-in-Three.result) (sym c.in-Three.is)
    (tried_so (of_nearest 3 there.dims k) (refusals_in old (Nearest name k p))
    (nearest_there old name c.in_ok-place.place c.in_ok-place.ensures.recorded there
    c.locate-located.ensures.by_record k p) c.nearest_to-in-Three.result
    c.nearest_to-in-Three.ensures.in_turn)
