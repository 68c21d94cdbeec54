use Rattle.c_session.proofs.Steps.{asked_with, refused_with}
use Rattle.std.proofs.Common.{Ok, Err, refl, sym, subst, ◌∙◌}
use Rattle.layer_store.specs.Commands.{Answers}
use Rattle.plain_table.specs.Commands.Command.{Range}
use Rattle.plain_table.specs.Answers.{boxes_answer}
use Rattle.c_session.specs.Keeping.{with_boxes}
use Rattle.c_session.proofs.session.Session.range.Goals as goal

pub returns-in-Ok : goal.returns-in-Ok
returns-in-Ok g c =
    asked_with c.args.self.now _ _ c.range.new.self _ _ _ boxes_answer with_boxes (Ok c.in-Ok.rows) _
    (sym c.raw_query.ensures ∙ c.in-Some.is) c.in-Some-store.is
    (subst (λ tag. Answers c.in-Some-store.store c.range.new.self
    (Range c.args.layer.now c.in-Some.query tag) boxes_answer (Ok c.in-Ok.rows)) c.tag_of.ensures
    c.in-Ok.ensures.answers) refl refl

pub returns-in-Err : goal.returns-in-Err
returns-in-Err g c =
    refused_with c.args.self.now _ c.range.new.self _ _ _ boxes_answer with_boxes c.in-Err.refusal _ _
    (sym c.raw_query.ensures ∙ c.in-Some.is) c.in-Some-store.is
    (subst (λ tag. Answers c.in-Some-store.store c.range.new.self
    (Range c.args.layer.now c.in-Some.query tag) boxes_answer (Err c.in-Err.refusal)) c.tag_of.ensures
    c.in-Err.ensures.answers) c.tell.ensures.detail c.tell.ensures.number
