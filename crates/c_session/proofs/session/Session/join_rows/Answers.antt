use Rattle.std.proofs.Common.{Ok, Err, ap, inl, inr, refl, subst, ◌∙◌}
use Rattle.c_session.specs.Asking.{JoinsRows}
use Rattle.c_session.proofs.Steps.{at}
use Rattle.c_session.proofs.session.Session.join_rows.Goals as goal

pub returns-in-Ok-join_rows : goal.returns-in-Ok-join_rows
returns-in-Ok-join_rows g c =
    inl (inr (
      _,
      c.join_rows.new.self,
      Ok c.in-Ok-join_rows.pairs,
      c.in-Some.is,
      subst
          (λ given. JoinsRows given c.args.layer.now c.args.within c.in-Some.store c.join_rows.new.self
          (Ok c.in-Ok-join_rows.pairs)) (c.as_slice.ensures.value ∙ c.in-Ok.ensures)
          (record { asks = c.in-Ok-join_rows.ensures.asks; told = c.in-Ok-join_rows.ensures.told }),
      refl,
      refl,
    ))

pub returns : goal.returns
returns g c =
    inl (inr (
      _,
      c.join_rows.new.self,
      Err c.in-Err.refusal,
      c.in-Some.is,
      subst
          (λ given. JoinsRows given c.args.layer.now c.args.within c.in-Some.store c.join_rows.new.self
          (Err c.in-Err.refusal)) (c.as_slice.ensures.value ∙ c.in-Ok.ensures)
          (record { asks = c.in-Err.ensures.asks; told = c.in-Err.ensures.told }),
      ap (at c.args.self.now c.join_rows.new.self) c.tell-in-Err.ensures.detail,
      c.tell-in-Err.ensures.number,
    ))
