use Rattle.std.proofs.Common.{Ok, Err, inr, refl, ap}
use Rattle.c_session.proofs.Steps.{at}
use Rattle.c_session.proofs.session.Session.outline.Goals as goal

pub returns-in-Ok : goal.returns-in-Ok
returns-in-Ok g c =
    inr (
      _,
      c.outline.new.self,
      Ok c.in-Ok.outline,
      c.in-Some.is,
      record { asks = c.in-Ok.ensures.asks; listed = c.in-Ok.ensures.listed },
      refl,
      refl,
    )

pub returns-in-Err : goal.returns-in-Err
returns-in-Err g c =
    inr (
      _,
      c.outline.new.self,
      Err c.in-Err.refusal,
      c.in-Some.is,
      record { asks = c.in-Err.ensures.asks; listed = c.in-Err.ensures.listed },
      ap (at c.args.self.now c.outline.new.self) c.tell.ensures.detail,
      c.tell.ensures.number,
    )
