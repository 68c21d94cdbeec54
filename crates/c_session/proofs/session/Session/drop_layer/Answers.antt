use Rattle.c_session.proofs.Steps.{changed}
use Rattle.c_session.proofs.session.Session.drop_layer.Goals as goal

pub returns-in-Some : goal.returns-in-Some
returns-in-Some g c =
    changed c.args.self.now _ c.drop_layer.new.self _ c.drop_layer.result c.number_of.new.detail
    c.number_of.result c.in-Some.is c.if-self.false c.drop_layer.ensures.changes c.number_of.ensures.detail
    c.number_of.ensures.number
