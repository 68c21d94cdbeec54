use Rattle.std.proofs.Common.{Ok, Err, ap, inr, refl, subst, sym, ◌∙◌}
use Rattle.c_session.specs.Asking.{RangesUnordered}
use Rattle.c_session.proofs.Steps.{at}
use Rattle.c_session.proofs.session.Session.range_unordered.Goals as goal

pub returns-in-Ok : goal.returns-in-Ok
returns-in-Ok g c =
    inr (
      c.in-Some.query,
      sym c.raw_query.ensures ∙ c.in-Some.is,
      inr (
        _,
        c.range_unordered.new.self,
        Ok c.in-Ok.rows,
        c.in-Some-store.is,
        subst
            (λ tag. RangesUnordered c.args.layer.now c.in-Some.query tag c.in-Some-store.store
            c.range_unordered.new.self (Ok c.in-Ok.rows)) c.tag_of.ensures
            (record { asks = c.in-Ok.ensures.asks; told = c.in-Ok.ensures.told }),
        refl,
        refl,
      ),
    )

pub returns-in-Err : goal.returns-in-Err
returns-in-Err g c =
    inr (
      c.in-Some.query,
      sym c.raw_query.ensures ∙ c.in-Some.is,
      inr (
        _,
        c.range_unordered.new.self,
        Err c.in-Err.refusal,
        c.in-Some-store.is,
        subst
            (λ tag. RangesUnordered c.args.layer.now c.in-Some.query tag c.in-Some-store.store
            c.range_unordered.new.self (Err c.in-Err.refusal)) c.tag_of.ensures
            (record { asks = c.in-Err.ensures.asks; told = c.in-Err.ensures.told }),
        ap (at c.args.self.now c.range_unordered.new.self) c.tell.ensures.detail,
        c.tell.ensures.number,
      ),
    )
