use Rattle.c_session.proofs.Steps.{is_end_of, no_refusal, settled_so}
use Rattle.std.proofs.Common.{inr, refl, sym, Ok, Err}
use Rattle.c_session.proofs.session.Session.close.Goals as goal

pub returns-in-Ok-clause-closes : goal.returns-in-Ok-clause-closes
returns-in-Ok-clause-closes g c =
    inr (
      _,
      Ok tt,
      c.in-Ok.device,
      sym c.in-Some.ensures.value,
      refl,
      record {
        closed = λ t has done. c.in-Ok.ensures.closed t has;
        durable = λ t has done. c.in-Ok.ensures.durable t has;
        refused = λ t has. tt;
        failed = λ dead. absurd (no_refusal (c.in-Ok.ensures.dead dead));
        quiet = λ settled. inr refl;
        cause = record { ok = c.in-Ok.ensures.no_fault; refused = tt };
      },
      refl,
      refl,
    )

pub returns-in-Err-clause-closes : goal.returns-in-Err-clause-closes
returns-in-Err-clause-closes g c =
    inr (
      _,
      Err c.in-Err.refusal,
      c.in-Err.device,
      sym c.in-Some.ensures.value,
      refl,
      record {
        closed = λ t has done. absurd (cc);
        durable = λ t has done. absurd (cc);
        refused = c.in-Err.ensures.refused;
        failed = λ dead. is_end_of c.in-Err.refusal _ _ (c.in-Err.ensures.dead dead);
        quiet = λ settled. settled_so (c.in-Err.ensures.quiet settled);
        cause = record { ok = tt; refused = c.in-Err.ensures.cause };
      },
      c.tell.ensures.number,
      c.tell.ensures.detail,
    )
