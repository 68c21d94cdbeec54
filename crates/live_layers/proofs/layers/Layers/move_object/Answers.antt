-- The layer is found or not, and an object of it gets the box of either dimension.
use Rattle.std.proofs.Common.{ap, inl}
use Rattle.plain_table.specs.Boxes.{dims_of, given_bounds}
use Rattle.plain_table.specs.Commands.Command.{Move}
use Rattle.plain_table.specs.Step.{box_refusals, missing_refusals}
use Rattle.plain_table.specs.Table.{layer_at}
use Rattle.live_layers.proofs.ChangeLemmas.{refused_by}
use Rattle.live_layers.proofs.TurnLemmas.{move_unrecorded}
use Rattle.live_layers.proofs.layers.Layers.move_object.Goals as goal

pub returns-in-Err-clause-change : goal.returns-in-Err-clause-change
returns-in-Err-clause-change g c =
    let name = c.args.name.now in
    let id = c.args.id in
    let bounds = c.args.bounds in
    refused_by c.args.self.now (Move name id bounds) c.in-Err.refusal g.met.B.BlockDevice.only_now
    c.in-Err.ensures.cause
    (λ t sound. inl
    (c.in-Err.ensures.unnamed t sound
    (box_refusals (layer_at t name).dims bounds (missing_refusals (layer_at t name) id))))
    (inl (move_unrecorded c.args.self.now name c.in-Err.refusal c.in-Err.ensures.unrecorded id bounds))

pub returns-in-Two-clause-change : goal.returns-in-Two-clause-change
returns-in-Two-clause-change g c = record {
  keeps = c.move_box.ensures.keeps;
  in_turn = c.move_box.ensures.in_turn c.args.name.now c.args.bounds c.in-Ok.ensures.recorded
      (ap dims_of c.in-Two.is) (ap given_bounds c.in-Two.is);
  lawful = λ t sound. c.move_box.ensures.change t c.args.name.now c.args.bounds sound
      (record {
        good = c.in-Ok.ensures.good;
        finds = c.in-Ok.ensures.found t sound;
        axes = ap dims_of c.in-Two.is;
        given = ap given_bounds c.in-Two.is;
      });
}

pub returns-in-Three-clause-change : goal.returns-in-Three-clause-change
returns-in-Three-clause-change g c = record {
  keeps = c.move_box-in-Three.ensures.keeps;
  in_turn = c.move_box-in-Three.ensures.in_turn c.args.name.now c.args.bounds c.in-Ok.ensures.recorded
      (ap dims_of c.in-Three.is) (ap given_bounds c.in-Three.is);
  lawful = λ t sound. c.move_box-in-Three.ensures.change t c.args.name.now c.args.bounds sound
      (record {
        good = c.in-Ok.ensures.good;
        finds = c.in-Ok.ensures.found t sound;
        axes = ap dims_of c.in-Three.is;
        given = ap given_bounds c.in-Three.is;
      });
}

pub returns-in-Two-clause-same : goal.returns-in-Two-clause-same
returns-in-Two-clause-same g c = λ t sound changed.
    c.move_box.ensures.same t c.args.name.now c.args.bounds sound
    (record {
      good = c.in-Ok.ensures.good;
      finds = c.in-Ok.ensures.found t sound;
      axes = ap dims_of c.in-Two.is;
      given = ap given_bounds c.in-Two.is;
    }) changed

pub returns-in-Three-clause-tree : goal.returns-in-Three-clause-tree
returns-in-Three-clause-tree g c = λ t sound changed.
    c.move_box-in-Three.ensures.tree t c.args.name.now c.args.bounds sound
    (record {
      good = c.in-Ok.ensures.good;
      finds = c.in-Ok.ensures.found t sound;
      axes = ap dims_of c.in-Three.is;
      given = ap given_bounds c.in-Three.is;
    }) changed

pub returns-in-Three-clause-same : goal.returns-in-Three-clause-same
returns-in-Three-clause-same g c = λ t sound changed.
    c.move_box-in-Three.ensures.same t c.args.name.now c.args.bounds sound
    (record {
      good = c.in-Ok.ensures.good;
      finds = c.in-Ok.ensures.found t sound;
      axes = ap dims_of c.in-Three.is;
      given = ap given_bounds c.in-Three.is;
    }) changed
