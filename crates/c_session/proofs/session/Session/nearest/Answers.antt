use Rattle.c_session.proofs.Steps.{asked_with, refused_with}
use Rattle.std.proofs.Common.{Ok, refl, sym, ◌∙◌}
use Rattle.plain_table.specs.Answers.{distances_answer}
use Rattle.c_session.specs.Keeping.{with_near}
use Rattle.c_session.proofs.session.Session.nearest.Goals as goal

pub returns-in-Ok : goal.returns-in-Ok
returns-in-Ok g c =
    asked_with c.args.self.now _ _ c.nearest.new.self _ _ _ distances_answer with_near (Ok c.in-Ok.rows) _
    (sym c.raw_point.ensures ∙ c.in-Some.is) c.in-Some-store.is c.in-Ok.ensures.answers refl refl

pub returns-in-Err : goal.returns-in-Err
returns-in-Err g c =
    refused_with c.args.self.now _ c.nearest.new.self _ _ _ distances_answer with_near c.in-Err.refusal _ _
    (sym c.raw_point.ensures ∙ c.in-Some.is) c.in-Some-store.is c.in-Err.ensures.answers
    c.tell.ensures.detail c.tell.ensures.number
