-- The goals of `reach` that are proved by hand.
use Rattle.std.proofs.Common.{◌≡◌, true, IfSome, sym, subst}
use Rattle.box_math.specs.Bounds.{Bounds, meets_test}
use Rattle.box_math.specs.declared.query.Query.{Query}
use Rattle.box_math.specs.Queries.{admits}
use Rattle.box_math.proofs.QueryLemmas.{around_meets, point_meets}
use Rattle.box_math.proofs.query.Query.reach.Goals as goal

pub returns-in-Around : goal.returns-in-Around
returns-in-Around g c = λ b passes.
    around_meets g.row.D c.in-Around.inner b (λ axis lt. (c.low.ensures.is_box.spans axis lt).ordered)
    (subst (λ (q : Query g.row.D). admits q b ≡ true) c.in-Around.is passes)

pub returns-in-Point : goal.returns-in-Point
returns-in-Point g c = λ b passes.
    let made : c.unwrap.result ≡ record { low = c.in-Point.point; high = c.in-Point.point } =
    subst (λ o. IfSome o
    (λ (b : Bounds). b ≡ record { low = c.in-Point.point; high = c.in-Point.point })) c.unwrap.ensures
    c.try_new.ensures.value in
    subst (λ (r : Bounds). meets_test g.row.D b r ≡ true) (sym made)
    (point_meets g.row.D c.in-Point.point b
    (subst (λ (q : Query g.row.D). admits q b ≡ true) c.in-Point.is passes))
