use Rattle.c_session.proofs.Steps.{changed}
use Rattle.c_session.proofs.session.Session.delete.Goals as goal

pub returns-in-Some : goal.returns-in-Some
returns-in-Some g c =
    changed c.args.self.now _ c.delete.new.self _ c.delete.result c.number_of.new.detail c.number_of.result
    c.in-Some.is c.if-self.false c.delete.ensures.changes c.number_of.ensures.detail
    c.number_of.ensures.number
