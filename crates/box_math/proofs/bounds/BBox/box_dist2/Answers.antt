-- The goals of `BBox::box_dist2` that are proved by hand.
use Rattle.std.proofs.Common.{◌≡◌, ◌*◌, ◌^◌, add-one, refl, arith}
use Rattle.std.proofs.lemmas.Int.{to_z-of_z, ints, clamps}
use Rattle.box_math.specs.Measures.{gap_on}
use Rattle.box_math.proofs.Fits.{square_le}
use Rattle.box_math.proofs.bounds.BBox.box_dist2.Goals as goal

pub loop-axis-preserved : goal.loop-axis-preserved
loop-axis-preserved g c =
    let k = c.loop-axis.axis in
    let i = c.loop-axis.invariant in
    let gap : c.max-gap.result ≡ gap_on c.args.self.now c.args.other.now k =
    grind (arith, to_z-of_z, ints, clamps) in
    let squared : c.square-sum.result ≡ c.max-gap.result * c.max-gap.result = cc in
    let small = square_le c.max-gap.result (2 ^ 32) (omega arith) in
    (rw (add-one, i.0, squared, gap) refl, rw squared (omega (arith, small, i.1)))
