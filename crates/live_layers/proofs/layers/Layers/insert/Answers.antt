-- The layer is found or not, and the object is inserted into it with the box of either dimension.
use Rattle.std.proofs.Common.{ap, inl, nat_le}
use Rattle.plain_table.specs.Boxes.{dims_of, given_bounds}
use Rattle.plain_table.specs.Commands.Command.{Insert}
use Rattle.plain_table.specs.Step.{object_refusals}
use Rattle.plain_table.specs.Table.{layer_at, most_objects, object_count}
use Rattle.live_layers.proofs.ChangeLemmas.{refused_by}
use Rattle.live_layers.proofs.TurnLemmas.{insert_unrecorded}
use Rattle.live_layers.proofs.layers.Layers.insert.Goals as goal

pub returns-in-Err-clause-change : goal.returns-in-Err-clause-change
returns-in-Err-clause-change g c =
    let name = c.args.name.now in
    refused_by c.args.self.now (Insert name c.args.id c.args.bounds c.args.tag) c.in-Err.refusal
    g.met.B.BlockDevice.only_now c.in-Err.ensures.cause
    (λ t sound. inl
    (c.in-Err.ensures.unnamed t sound
    (object_refusals (layer_at t name) c.args.id c.args.bounds (nat_le most_objects (object_count t)))))
    (inl (insert_unrecorded c.args.self.now name c.in-Err.refusal c.in-Err.ensures.unrecorded c.args.id
    c.args.bounds c.args.tag))

pub returns-in-Two-clause-change : goal.returns-in-Two-clause-change
returns-in-Two-clause-change g c =
    let good = c.in-Ok.ensures.good in record {
      keeps = c.insert_box.ensures.keeps;
      lawful = λ t sound. c.insert_box.ensures.change t c.args.name.now c.args.bounds sound
          (record {
            good = good;
            finds = c.in-Ok.ensures.found t sound;
            axes = ap dims_of c.in-Two.is;
            given = ap given_bounds c.in-Two.is;
          });
      in_turn = c.insert_box.ensures.in_turn c.args.name.now c.args.bounds c.in-Ok.ensures.recorded
          (ap dims_of c.in-Two.is) (ap given_bounds c.in-Two.is);
    }

pub returns-in-Two-clause-tree : goal.returns-in-Two-clause-tree
returns-in-Two-clause-tree g c = λ t sound.
    c.insert_box.ensures.tree t c.args.name.now c.args.bounds sound
    (record {
      good = c.in-Ok.ensures.good;
      finds = c.in-Ok.ensures.found t sound;
      axes = ap dims_of c.in-Two.is;
      given = ap given_bounds c.in-Two.is;
    })

pub returns-in-Three-clause-change : goal.returns-in-Three-clause-change
returns-in-Three-clause-change g c =
    let good = c.in-Ok.ensures.good in record {
      keeps = c.insert_box-in-Three.ensures.keeps;
      lawful = λ t sound. c.insert_box-in-Three.ensures.change t c.args.name.now c.args.bounds sound
          (record {
            good = good;
            finds = c.in-Ok.ensures.found t sound;
            axes = ap dims_of c.in-Three.is;
            given = ap given_bounds c.in-Three.is;
          });
      in_turn = c.insert_box-in-Three.ensures.in_turn c.args.name.now c.args.bounds c.in-Ok.ensures.recorded
          (ap dims_of c.in-Three.is) (ap given_bounds c.in-Three.is);
    }

pub returns-in-Three-clause-tree : goal.returns-in-Three-clause-tree
returns-in-Three-clause-tree g c = λ t sound.
    c.insert_box-in-Three.ensures.tree t c.args.name.now c.args.bounds sound
    (record {
      good = c.in-Ok.ensures.good;
      finds = c.in-Ok.ensures.found t sound;
      axes = ap dims_of c.in-Three.is;
      given = ap given_bounds c.in-Three.is;
    })
