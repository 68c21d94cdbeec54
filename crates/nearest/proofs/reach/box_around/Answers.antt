-- The goals of `box_around` that are proved by hand.
use Rattle.std.proofs.Common.{◌≡◌, ◌∙◌, ◌<◌, ◌≤ℤ◌, ℤ, IfSome, ap, subst, sym, arith}
use Rattle.box_math.specs.Bounds.{Bounds, on_axis}
use Rattle.nearest.proofs.ReachLemmas.{below_above, below_by, near_meets}
use Rattle.nearest.proofs.reach.box_around.Goals as goal

pub unwrap-requires : goal.unwrap-requires
unwrap-requires g c =
    let i = c.loop-axis.invariant in
    c.try_new.ensures.some.1 (λ axis lt.
    let k : axis < c.loop-axis.axis = omega (arith, lt, c.loop-axis-test.false) in
    let both = below_above (on_axis c.args.point.now axis) c.args.side (i.fits axis k) in
    subst (λ (z : ℤ). z ≤ℤ on_axis c.loop-axis.high axis) (sym (i.lows.below axis k))
    (subst (λ (z : ℤ). below_by c.args.point.now c.args.side axis ≤ℤ z) (sym (i.highs.below axis k)) both))

pub returns : goal.returns
returns g c = λ b box near.
    let i = c.loop-axis.invariant in
    let made : c.unwrap.result ≡ record { low = c.loop-axis.low; high = c.loop-axis.high } =
    subst (λ o. IfSome o (λ (w : Bounds). w ≡ record { low = c.loop-axis.low; high = c.loop-axis.high }))
    c.unwrap.ensures c.try_new.ensures.value in
    near_meets g.row.D c.args.point.now c.args.side c.unwrap.result b
    (λ k lt. i.fits k (omega (arith, lt, c.loop-axis-test.false)))
    (λ k lt. ap (λ (w : Bounds). on_axis w.low k) made
    ∙ i.lows.below k (omega (arith, lt, c.loop-axis-test.false)))
    (λ k lt. ap (λ (w : Bounds). on_axis w.high k) made
    ∙ i.highs.below k (omega (arith, lt, c.loop-axis-test.false)))
    box near
