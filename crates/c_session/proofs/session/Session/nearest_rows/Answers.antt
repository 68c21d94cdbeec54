use Rattle.std.proofs.Common.{Ok, Err, inl, inr, refl, subst, sym, ap, ◌∙◌}
use Rattle.c_session.specs.Parts.{GetsNear}
use Rattle.c_session.proofs.Steps.{at}
use Rattle.c_session.proofs.session.Session.nearest_rows.Goals as goal

pub returns-in-Err : goal.returns-in-Err
returns-in-Err g c =
    inr (
      c.in-Some.point,
      sym c.raw_point.ensures ∙ c.in-Some.is,
      inr (inl (
        c.in-Some-store.store,
        c.nearest.new.self,
        c.in-Err.refusal,
        c.in-Some-store.is,
        c.in-Err.ensures.answers,
        ap (at c.args.self.now c.nearest.new.self) c.tell.ensures.detail,
        c.tell.ensures.number,
      )),
    )

pub returns-in-Ok-get_near : goal.returns-in-Ok-get_near
returns-in-Ok-get_near g c =
    inr (
      c.in-Some.point,
      sym c.raw_point.ensures ∙ c.in-Some.is,
      inr (inr (
        c.in-Some-store.store,
        c.nearest.new.self,
        c.get_near.new.store,
        c.in-Ok.near,
        Ok c.in-Ok-get_near.objects,
        c.in-Some-store.is,
        c.in-Ok.ensures.answers,
        subst (λ tag. GetsNear c.nearest.new.self c.get_near.new.store c.args.layer.now c.in-Ok.near.items tag
            (Ok c.in-Ok-get_near.objects)) c.tag_of.ensures
            (subst (λ near. GetsNear c.nearest.new.self c.get_near.new.store c.args.layer.now near
            c.tag_of.result (Ok c.in-Ok-get_near.objects)) c.as_slice.ensures.value c.in-Ok-get_near.ensures),
        refl,
        refl,
      )),
    )

pub returns-in-Err-get_near : goal.returns-in-Err-get_near
returns-in-Err-get_near g c =
    inr (
      c.in-Some.point,
      sym c.raw_point.ensures ∙ c.in-Some.is,
      inr (inr (
        c.in-Some-store.store,
        c.nearest.new.self,
        c.get_near.new.store,
        c.in-Ok.near,
        Err c.in-Err-get_near.refusal,
        c.in-Some-store.is,
        c.in-Ok.ensures.answers,
        subst (λ tag. GetsNear c.nearest.new.self c.get_near.new.store c.args.layer.now c.in-Ok.near.items tag
            (Err c.in-Err-get_near.refusal)) c.tag_of.ensures
            (subst (λ near. GetsNear c.nearest.new.self c.get_near.new.store c.args.layer.now near
            c.tag_of.result (Err c.in-Err-get_near.refusal)) c.as_slice.ensures.value c.in-Err-get_near.ensures),
        ap (at c.args.self.now c.get_near.new.store) c.tell-in-Err-get_near.ensures.detail,
        c.tell-in-Err-get_near.ensures.number,
      )),
    )
