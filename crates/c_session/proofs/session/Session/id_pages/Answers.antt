use Rattle.std.proofs.Common.{Ok, Err, inr, refl, ap}
use Rattle.c_session.proofs.Steps.{at}
use Rattle.c_session.proofs.session.Session.id_pages.Goals as goal

pub returns-in-Ok : goal.returns-in-Ok
returns-in-Ok g c =
    inr (
      _,
      c.id_pages.new.self,
      Ok c.in-Ok.pages,
      c.in-Some.is,
      record { asks = c.in-Ok.ensures.asks; counted = c.in-Ok.ensures.counted },
      refl,
      refl,
      refl,
    )

pub returns-in-Err : goal.returns-in-Err
returns-in-Err g c =
    inr (
      _,
      c.id_pages.new.self,
      Err c.in-Err.refusal,
      c.in-Some.is,
      record { asks = c.in-Err.ensures.asks; counted = c.in-Err.ensures.counted },
      ap (at c.args.self.now c.id_pages.new.self) c.tell.ensures.detail,
      refl,
      c.tell.ensures.number,
    )
