-- The layer is found or not, and the object is deleted from it.
use Rattle.std.proofs.Common.{inl}
use Rattle.plain_table.specs.Commands.Command.{Delete}
use Rattle.plain_table.specs.Step.{missing_refusals}
use Rattle.plain_table.specs.Table.{layer_at}
use Rattle.live_layers.proofs.ChangeLemmas.{refused_by}
use Rattle.live_layers.proofs.TurnLemmas.{delete_unrecorded}
use Rattle.live_layers.proofs.layers.Layers.delete.Goals as goal

pub returns-in-Err-clause-change : goal.returns-in-Err-clause-change
returns-in-Err-clause-change g c =
    let name = c.args.name.now in
    let id = c.args.id in
    refused_by c.args.self.now (Delete name id) c.in-Err.refusal g.met.B.BlockDevice.only_now
    c.in-Err.ensures.cause
    (λ t sound. inl (c.in-Err.ensures.unnamed t sound (missing_refusals (layer_at t name) id)))
    (inl (delete_unrecorded c.args.self.now name c.in-Err.refusal c.in-Err.ensures.unrecorded id))

pub returns-then-located-eq2-clause-change : goal.returns-then-located-eq2-clause-change
returns-then-located-eq2-clause-change g c = record {
  keeps = c.delete_at.ensures.keeps;
  in_turn = c.delete_at.ensures.in_turn c.args.name.now c.in-Ok.ensures.recorded;
  lawful = λ t sound.
      let name = c.args.name.now in
      let finds = c.in-Ok.ensures.found t sound in
      c.delete_at.ensures.change t name sound
      (record {
        named = c.in-Ok.ensures.named t sound;
        finds = finds;
        located = c.locate-located.ensures.located t name sound finds;
        recorded = c.locate-located.ensures.by_record;
      });
}

pub returns-else-located-eq2-clause-change : goal.returns-else-located-eq2-clause-change
returns-else-located-eq2-clause-change g c = record {
  keeps = c.delete_at-else-located-eq2.ensures.keeps;
  in_turn = c.delete_at-else-located-eq2.ensures.in_turn c.args.name.now c.in-Ok.ensures.recorded;
  lawful = λ t sound.
      let name = c.args.name.now in
      let finds = c.in-Ok.ensures.found t sound in
      c.delete_at-else-located-eq2.ensures.change t name sound
      (record {
        named = c.in-Ok.ensures.named t sound;
        finds = finds;
        located = c.locate-located.ensures.located t name sound finds;
        recorded = c.locate-located.ensures.by_record;
      });
}

pub returns-then-located-eq2-clause-tree : goal.returns-then-located-eq2-clause-tree
returns-then-located-eq2-clause-tree g c = λ t sound.
    let name = c.args.name.now in
    let finds = c.in-Ok.ensures.found t sound in
    c.delete_at.ensures.tree t name sound
    (record {
      named = c.in-Ok.ensures.named t sound;
      finds = finds;
      located = c.locate-located.ensures.located t name sound finds;
      recorded = c.locate-located.ensures.by_record;
    })

pub returns-else-located-eq2-clause-tree : goal.returns-else-located-eq2-clause-tree
returns-else-located-eq2-clause-tree g c = λ t sound.
    let name = c.args.name.now in
    let finds = c.in-Ok.ensures.found t sound in
    c.delete_at-else-located-eq2.ensures.tree t name sound
    (record {
      named = c.in-Ok.ensures.named t sound;
      finds = finds;
      located = c.locate-located.ensures.located t name sound finds;
      recorded = c.locate-located.ensures.by_record;
    })
