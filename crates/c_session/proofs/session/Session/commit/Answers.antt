use Rattle.c_session.proofs.Steps.{committed}
use Rattle.c_session.proofs.session.Session.commit.Goals as goal

pub returns-in-Some : goal.returns-in-Some
returns-in-Some g c =
    committed c.args.self.now _ c.reopen.new.self c.reopen.result c.number_of.new.detail c.number_of.result
    c.in-Some.is
    (record {
      step = c.reopen.ensures.step;
      reply = c.reopen.ensures.reply;
      honest = c.reopen.ensures.honest;
      closed = c.reopen.ensures.closed;
      durable = c.reopen.ensures.durable;
    }) c.number_of.ensures.detail
    c.number_of.ensures.number
