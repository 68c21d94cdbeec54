-- The goals of `measured` that are proved by hand.
use Rattle.std.proofs.Common.{◌≡◌, ◌<◌, arith, refl}
use Rattle.std.specs.Int.{int_min}
use Rattle.std.proofs.lemmas.Int.{to_z-of_z}
use Rattle.box_math.specs.Bounds.{on_axis}
use Rattle.box_math.specs.Measures.{nearest_on}
use Rattle.nearest.proofs.DistanceLemmas.{gap_on, one_measured}
use Rattle.nearest.proofs.distances.measured.Goals as goal

pub axes-preserved : goal.axes-preserved
axes-preserved g c =
    let k = c.axes.axis in
    let b = c.args.bounds.now in
    let p = c.args.point.now in
    let least : c.min.result ≡ int_min (on_axis p k) (on_axis b.high k) = grind (arith, to_z-of_z) in
    let nearest : c.max.result ≡ nearest_on b p k = grind (arith, to_z-of_z) in
    let gap : c.abs_diff-gap.result ≡ gap_on b p k = grind (arith, to_z-of_z) in
    let few : k < 3 = omega (arith, c.axes-test.true, c.requires.1) in
    one_measured c.args.bounds.now c.args.point.now c.axes.axis c.axes.square c.axes.widest
    c.abs_diff-gap.result _ c.max-widest.result c.axes.invariant few gap c.max-widest.ensures
    (let a = c.from.ensures in let b = c.from-in-axes.ensures in rw (a, b) refl)
