use Rattle.c_session.proofs.Steps.{checked}
use Rattle.c_session.proofs.session.Session.check.Goals as goal

pub returns-in-Some : goal.returns-in-Some
returns-in-Some g c =
    checked c.args.self.now _ c.check.new.self c.check.result c.number_of.new.detail c.number_of.result
    c.in-Some.is c.check.ensures.answers c.number_of.ensures.detail c.number_of.ensures.number
