use Rattle.c_session.proofs.Steps.{told}
use Rattle.std.proofs.Common.{Ok, Err, refl}
use Rattle.plain_table.specs.Answers.{count_answer}
use Rattle.c_session.proofs.session.Session.count.Goals as goal

pub returns-in-Ok : goal.returns-in-Ok
returns-in-Ok g c =
    told c.args.self.now _ c.count.new.self _ count_answer _ (Ok c.in-Ok.found) _ _ c.in-Some.is
    c.in-Ok.ensures.answers refl refl refl

pub returns-in-Err : goal.returns-in-Err
returns-in-Err g c =
    told c.args.self.now _ c.count.new.self _ count_answer _ (Err c.in-Err.refusal) _ _ c.in-Some.is
    c.in-Err.ensures.answers c.tell.ensures.detail refl c.tell.ensures.number
