use Rattle.c_session.proofs.Steps.{asked, refused}
use Rattle.std.proofs.Common.{Ok, refl}
use Rattle.plain_table.specs.Answers.{pairs_answer}
use Rattle.c_session.specs.Keeping.{with_pairs}
use Rattle.c_session.proofs.session.Session.join.Goals as goal

pub returns-in-Ok : goal.returns-in-Ok
returns-in-Ok g c =
    asked c.args.self.now _ _ c.join.new.self _ pairs_answer with_pairs (Ok c.in-Ok.rows) _ c.in-Some.is
    c.in-Ok.ensures.answers refl refl

pub returns-in-Err : goal.returns-in-Err
returns-in-Err g c =
    refused c.args.self.now _ c.join.new.self _ pairs_answer with_pairs c.in-Err.refusal _ _ c.in-Some.is
    c.in-Err.ensures.answers c.tell.ensures.detail c.tell.ensures.number
