-- The layer is found or not, and it is loaded with boxes of its axes.
use Rattle.std.proofs.Common.{◌≡◌, ◌∙◌, arith, inl}
use Rattle.plain_table.specs.Commands.Command.{Load}
use Rattle.plain_table.specs.Step.{load_refusals}
use Rattle.plain_table.specs.Table.{layer_at, object_count}
use Rattle.live_layers.proofs.ChangeLemmas.{refused_by}
use Rattle.live_layers.proofs.LoadLemmas.{names_layer}
use Rattle.live_layers.proofs.TurnLemmas.{dims_there, load_unrecorded}
use Rattle.live_layers.proofs.layers.Layers.load.Goals as goal

pub returns-in-Err-clause-change : goal.returns-in-Err-clause-change
returns-in-Err-clause-change g c =
    let name = c.args.name.now in
    let given = c.args.objects.items in
    refused_by c.args.self.now (Load name given) c.in-Err.refusal g.met.B.BlockDevice.only_now
    c.in-Err.ensures.cause
    (λ t sound. inl
    (c.in-Err.ensures.unnamed t sound (load_refusals (layer_at t name) given (object_count t))))
    (inl (load_unrecorded c.args.self.now name c.in-Err.refusal c.in-Err.ensures.unrecorded given))

pub returns-then-locate-eq2-clause-change : goal.returns-then-locate-eq2-clause-change
returns-then-locate-eq2-clause-change g c = record {
  keeps = c.load_given.ensures.keeps;
  in_turn =
      let name = c.args.name.now in
      let its = c.in-Ok.ensures.recorded in
      c.load_given.ensures.in_turn name its
      (dims_there c.args.self.now name _ its c.locate.result c.locate.ensures.by_record
      ∙ c.if-locate-eq2.true);
  lawful = λ t sound.
      let name = c.args.name.now in
      let finds = c.in-Ok.ensures.found t sound in
      let axes = (c.locate.ensures.located t name sound finds).dims ∙ c.if-locate-eq2.true in
      c.load_given.ensures.change t name sound (names_layer t name _ 2 c.in-Ok.ensures.good finds axes);
}

pub returns-then-locate-eq2-clause-tree : goal.returns-then-locate-eq2-clause-tree
returns-then-locate-eq2-clause-tree g c = λ t sound changed.
    let name = c.args.name.now in
    let finds = c.in-Ok.ensures.found t sound in
    let axes = (c.locate.ensures.located t name sound finds).dims ∙ c.if-locate-eq2.true in
    c.load_given.ensures.tree t name sound (names_layer t name _ 2 c.in-Ok.ensures.good finds axes) changed

pub returns-then-locate-eq2-clause-same : goal.returns-then-locate-eq2-clause-same
returns-then-locate-eq2-clause-same g c = λ t sound unchanged.
    let name = c.args.name.now in
    let finds = c.in-Ok.ensures.found t sound in
    let axes = (c.locate.ensures.located t name sound finds).dims ∙ c.if-locate-eq2.true in
    c.load_given.ensures.same t name sound (names_layer t name _ 2 c.in-Ok.ensures.good finds axes) unchanged

pub returns-else-locate-eq2-clause-change : goal.returns-else-locate-eq2-clause-change
returns-else-locate-eq2-clause-change g c = record {
  keeps = c.load_given-else-locate-eq2.ensures.keeps;
  in_turn =
      let name = c.args.name.now in
      let its = c.in-Ok.ensures.recorded in
      let is_3 : c.locate.result.dims ≡ 3 =
      omega (arith, c.locate.ensures.dims.0, c.locate.ensures.dims.1, c.if-locate-eq2.false) in
      c.load_given-else-locate-eq2.ensures.in_turn name its
      (dims_there c.args.self.now name _ its c.locate.result c.locate.ensures.by_record ∙ is_3);
  lawful = λ t sound.
      let name = c.args.name.now in
      let finds = c.in-Ok.ensures.found t sound in
      let is_3 : c.locate.result.dims ≡ 3 =
      omega (arith, c.locate.ensures.dims.0, c.locate.ensures.dims.1, c.if-locate-eq2.false) in
      let axes = (c.locate.ensures.located t name sound finds).dims ∙ is_3 in
      c.load_given-else-locate-eq2.ensures.change t name sound
      (names_layer t name _ 3 c.in-Ok.ensures.good finds axes);
}

pub returns-else-locate-eq2-clause-tree : goal.returns-else-locate-eq2-clause-tree
returns-else-locate-eq2-clause-tree g c = λ t sound changed.
    let name = c.args.name.now in
    let finds = c.in-Ok.ensures.found t sound in
    let is_3 : c.locate.result.dims ≡ 3 =
    omega (arith, c.locate.ensures.dims.0, c.locate.ensures.dims.1, c.if-locate-eq2.false) in
    let axes = (c.locate.ensures.located t name sound finds).dims ∙ is_3 in
    c.load_given-else-locate-eq2.ensures.tree t name sound
    (names_layer t name _ 3 c.in-Ok.ensures.good finds axes) changed

pub returns-else-locate-eq2-clause-same : goal.returns-else-locate-eq2-clause-same
returns-else-locate-eq2-clause-same g c = λ t sound unchanged.
    let name = c.args.name.now in
    let finds = c.in-Ok.ensures.found t sound in
    let is_3 : c.locate.result.dims ≡ 3 =
    omega (arith, c.locate.ensures.dims.0, c.locate.ensures.dims.1, c.if-locate-eq2.false) in
    let axes = (c.locate.ensures.located t name sound finds).dims ∙ is_3 in
    c.load_given-else-locate-eq2.ensures.same t name sound
    (names_layer t name _ 3 c.in-Ok.ensures.good finds axes) unchanged
