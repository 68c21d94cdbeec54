use Rattle.std.proofs.Common.{Ok, Err, inr, refl, sym, subst, ap, ◌∙◌}
use Rattle.layer_store.specs.Commands.{Answers}
use Rattle.plain_table.specs.Commands.Command.{Range}
use Rattle.plain_table.specs.Answers.{boxes_answer}
use Rattle.c_session.proofs.Steps.{at}
use Rattle.c_session.proofs.session.Session.range_after.Goals as goal

pub returns-in-Ok : goal.returns-in-Ok
returns-in-Ok g c =
    inr (
      c.in-Some.query,
      sym c.raw_query.ensures ∙ c.in-Some.is,
      inr (
        c.in-Some-store.store,
        c.range.new.self,
        Ok c.in-Ok.rows,
        c.in-Some-store.is,
        subst (λ tag. Answers c.in-Some-store.store c.range.new.self
            (Range c.args.layer.now c.in-Some.query tag) boxes_answer (Ok c.in-Ok.rows)) c.tag_of.ensures
            c.in-Ok.ensures.answers,
        (c.keep_after.new.objects, c.keep_after.ensures, refl),
        refl,
      ),
    )

pub returns-in-Err : goal.returns-in-Err
returns-in-Err g c =
    inr (
      c.in-Some.query,
      sym c.raw_query.ensures ∙ c.in-Some.is,
      inr (
        c.in-Some-store.store,
        c.range.new.self,
        Err c.in-Err.refusal,
        c.in-Some-store.is,
        subst (λ tag. Answers c.in-Some-store.store c.range.new.self
            (Range c.args.layer.now c.in-Some.query tag) boxes_answer (Err c.in-Err.refusal)) c.tag_of.ensures
            c.in-Err.ensures.answers,
        ap (at c.args.self.now c.range.new.self) c.tell.ensures.detail,
        c.tell.ensures.number,
      ),
    )
