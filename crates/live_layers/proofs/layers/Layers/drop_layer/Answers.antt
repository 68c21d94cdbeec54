-- A layer that is there goes, and what is refused changes nothing.
use Rattle.std.proofs.Common.{[], false, inl, refl}
use Rattle.plain_table.specs.Commands.Command.{Drop}
use Rattle.live_layers.specs.Refusals.{refusals_in}
use Rattle.live_layers.proofs.ChangeLemmas.{begun_change, begun_keeps_so, made_so, refused_by}
use Rattle.live_layers.proofs.DropLemmas.{it_shrinks}
use Rattle.live_layers.proofs.QuestionLemmas.{none_asked}
use Rattle.live_layers.proofs.RefusalLemmas.{begun_in_turn}
use Rattle.live_layers.proofs.TurnLemmas.{drop_unrecorded}
use Rattle.live_layers.proofs.layers.Layers.drop_layer.Goals as goal

pub returns-in-Ok-clause-change : goal.returns-in-Ok-clause-change
returns-in-Ok-clause-change g c =
    let old = c.args.self.now in
    let new = c.take_layer.new.self in
    let name = c.args.name.now in
    let taken = c.take_layer.ensures in
    let made = c.take_layer.result in
    let result = c.change_of.result in
    let unasked = none_asked old in record {
      keeps = begun_keeps_so old old new unasked made taken.begins result c.change_of.ensures;
      lawful = λ t sound.
          let none = c.in-Ok.ensures.named t sound [] in
          let finds = c.in-Ok.ensures.found t sound in
          begun_change old old new unasked made taken.begins result c.change_of.ensures t (Drop name)
          (it_shrinks t name none) g.met.B.BlockDevice.only_now sound none refl
          (taken.taken t name sound finds) (taken.faults t name sound finds);
      in_turn = begun_in_turn (refusals_in old (Drop name)) made result c.change_of.ensures
          (false, c.in-Ok.ensures.recorded.passes []);
    }

pub returns-in-Ok-clause-others : goal.returns-in-Ok-clause-others
returns-in-Ok-clause-others g c = λ t sound.
    made_so _ c.take_layer.result c.change_of.result c.change_of.ensures
    (c.take_layer.ensures.others t c.args.name.now sound (c.in-Ok.ensures.found t sound))

pub returns-in-Err-clause-change : goal.returns-in-Err-clause-change
returns-in-Err-clause-change g c =
    refused_by c.args.self.now (Drop c.args.name.now) c.in-Err.refusal g.met.B.BlockDevice.only_now
    c.in-Err.ensures.cause (λ t sound. inl (c.in-Err.ensures.unnamed t sound []))
    (inl (drop_unrecorded c.args.self.now c.args.name.now c.in-Err.refusal c.in-Err.ensures.unrecorded))
