use Rattle.c_session.proofs.Steps.{changed}
use Rattle.std.proofs.Common.{inl, subst}
use Rattle.layer_store.specs.Commands.{Changes}
use Rattle.plain_table.specs.Commands.Command.{Load}
use Rattle.c_session.proofs.session.Session.load.Goals as goal

pub returns-in-Ok : goal.returns-in-Ok
returns-in-Ok g c =
    let changes =
    subst (λ objects. Changes c.in-Some.store c.load_owned.new.self (Load c.args.layer.now objects)
    c.load_owned.result) c.in-Ok.ensures c.load_owned.ensures.changes in
    inl (changed c.args.self.now _ c.load_owned.new.self _ c.load_owned.result c.number_of.new.detail
    c.number_of.result
    c.in-Some.is c.if-self.false changes c.number_of.ensures.detail c.number_of.ensures.number)
