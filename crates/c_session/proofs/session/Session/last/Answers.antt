use Rattle.std.proofs.Common.{None, Ok, Err, inr, refl, subst, ap}
use Rattle.layer_store.specs.Commands.{Answers}
use Rattle.plain_table.specs.Answers.{boxes_answer}
use Rattle.plain_table.specs.Commands.Command.{Range}
use Rattle.plain_table.specs.declared.queries.RawQuery.TheVariants as query
use Rattle.c_rows.specs.Parts.{IsLast}
use Rattle.c_session.proofs.Steps.{at}
use Rattle.c_session.proofs.session.Session.last.Goals as goal

pub returns-in-Ok : goal.returns-in-Ok
returns-in-Ok g c =
    inr (
      c.in-Some.store,
      c.range.new.self,
      Ok c.in-Ok.rows,
      c.in-Some.is,
      subst (λ box. Answers c.in-Some.store c.range.new.self
          (Range c.args.layer.now (query.Window box) None) boxes_answer (Ok c.in-Ok.rows)) c.everywhere.ensures
          c.in-Ok.ensures.answers,
      refl,
      (
        c.last_of-last.result,
        subst (λ rows. IsLast c.args.most rows c.last_of-last.result) c.as_slice.ensures.value
            c.last_of-last.ensures,
        c.is_some.ensures,
        c.unwrap_or.ensures,
      ),
      refl,
    )

pub returns-in-Err : goal.returns-in-Err
returns-in-Err g c =
    inr (
      c.in-Some.store,
      c.range.new.self,
      Err c.in-Err.refusal,
      c.in-Some.is,
      subst (λ box. Answers c.in-Some.store c.range.new.self
          (Range c.args.layer.now (query.Window box) None) boxes_answer (Err c.in-Err.refusal))
          c.everywhere.ensures c.in-Err.ensures.answers,
      ap (at c.args.self.now c.range.new.self) c.tell.ensures.detail,
      (refl, refl),
      c.tell.ensures.number,
    )
