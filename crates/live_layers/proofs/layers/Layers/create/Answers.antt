-- A layer that may be made is made, and what is refused changes nothing.
use Rattle.std.proofs.Common.{inl, refl}
use Rattle.plain_table.specs.Commands.Command.{Create}
use Rattle.live_layers.specs.Refusals.{refusals_in}
use Rattle.live_layers.proofs.AskLemmas.{not_there}
use Rattle.live_layers.proofs.ChangeLemmas.{begun_change, begun_keeps_so, made_so, refused_by}
use Rattle.live_layers.proofs.CreateLemmas.{it_grows}
use Rattle.live_layers.proofs.QuestionLemmas.{none_asked}
use Rattle.live_layers.proofs.RefusalLemmas.{begun_in_turn}
use Rattle.live_layers.proofs.layers.Layers.create.Goals as goal

pub returns-in-Ok-clause-change : goal.returns-in-Ok-clause-change
returns-in-Ok-clause-change g c =
    let old = c.args.self.now in
    let new = c.add_layer.new.self in
    let name = c.args.name.now in
    let added = c.add_layer.ensures in
    let made = c.add_layer.result in
    let result = c.change_of.result in
    let unasked = none_asked old in record {
      keeps = begun_keeps_so old old new unasked made added.begins result c.change_of.ensures;
      lawful = λ t sound.
          let none = c.in-Ok.ensures.allowed t sound in
          let belongs = c.in-Ok.ensures.belongs t sound in
          begun_change old old new unasked made added.begins result c.change_of.ensures t
          (Create name c.args.dims c.args.fanout)
          (it_grows t name c.args.dims c.args.fanout none (not_there t name c.in-Ok.place belongs))
          g.met.B.BlockDevice.only_now sound none refl
          (added.added t sound belongs) (added.faults t sound);
      in_turn = begun_in_turn (refusals_in old (Create name c.args.dims c.args.fanout)) made result
          c.change_of.ensures c.in-Ok.ensures.in_turn;
    }

pub returns-in-Ok-clause-tree : goal.returns-in-Ok-clause-tree
returns-in-Ok-clause-tree g c =
    λ t sound. made_so _ c.add_layer.result c.change_of.result c.change_of.ensures
    (c.add_layer.ensures.tree t sound (c.in-Ok.ensures.belongs t sound))

pub returns-in-Ok-clause-version : goal.returns-in-Ok-clause-version
returns-in-Ok-clause-version g c =
    λ t sound. made_so _ c.add_layer.result c.change_of.result c.change_of.ensures
    (c.add_layer.ensures.begins.versions.done sound.map.honest)

pub returns-in-Err-clause-change : goal.returns-in-Err-clause-change
returns-in-Err-clause-change g c =
    refused_by c.args.self.now (Create c.args.name.now c.args.dims c.args.fanout) c.in-Err.refusal
    g.met.B.BlockDevice.only_now c.in-Err.ensures.blames_none
    (λ t sound. inl (c.in-Err.ensures.allowed t sound)) c.in-Err.ensures.in_turn
