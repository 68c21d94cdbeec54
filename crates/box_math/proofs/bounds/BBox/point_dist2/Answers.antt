-- The goals of `BBox::point_dist2` that are proved by hand.
use Rattle.std.proofs.Common.{◌≡◌, ◌-ℤ◌, unsigned_abs, ◌*◌, ◌^◌, add-one, refl, arith}
use Rattle.std.proofs.lemmas.Int.{to_z-of_z}
use Rattle.box_math.specs.Bounds.{on_axis}
use Rattle.box_math.specs.Measures.{nearest_on}
use Rattle.box_math.proofs.Fits.{square_le}
use Rattle.box_math.proofs.bounds.BBox.point_dist2.Goals as goal

pub loop-axis-preserved : goal.loop-axis-preserved
loop-axis-preserved g c =
    let k = c.loop-axis.axis in
    let p = c.args.point.now in
    let i = c.loop-axis.invariant in
    let gap : c.abs_diff-gap.result ≡ unsigned_abs (on_axis p k -ℤ nearest_on c.args.self.now p k) =
    grind (arith, to_z-of_z) in
    let squared : c.square-sum.result ≡ c.abs_diff-gap.result * c.abs_diff-gap.result = cc in
    let small = square_le c.abs_diff-gap.result (2 ^ 32) (omega arith) in
    (rw (add-one, i.0, squared, gap) refl, rw squared (omega (arith, small, i.1)))
