use Rattle.c_session.proofs.Steps.{told, listed_so}
use Rattle.std.proofs.Common.{Ok, Err, refl}
use Rattle.plain_table.specs.Answers.{layers_answer}
use Rattle.c_session.proofs.session.Session.layers.Goals as goal

pub returns-in-Ok : goal.returns-in-Ok
returns-in-Ok g c =
    told c.args.self.now _ c.layers.new.self _ layers_answer _ (Ok c.in-Ok.layers) _ _ c.in-Some.is
    c.in-Ok.ensures.answers refl (
      c.len.ensures.value,
      listed_so c.in-Ok.layers.items c.as_slice.result.now _ _ _ c.as_slice.ensures.value
          c.write_layers.ensures.count c.write_layers.ensures.rows,
    ) refl

pub returns-in-Err : goal.returns-in-Err
returns-in-Err g c =
    told c.args.self.now _ c.layers.new.self _ layers_answer _ (Err c.in-Err.refusal) _ _ c.in-Some.is
    c.in-Err.ensures.answers c.tell.ensures.detail (refl, refl) c.tell.ensures.number
