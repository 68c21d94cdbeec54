-- The goals of `BBox::overlap` that are proved by hand.
use Rattle.std.proofs.Common.{add-one, refl, ◌≡◌, sym, arith, below_more, unsigned_abs, ◌-ℤ◌}
use Rattle.std.proofs.Math.Nat.{pow-suc}
use Rattle.std.proofs.lemmas.Nat.{mul-le}
use Rattle.std.specs.Int.{int_min, int_max}
use Rattle.std.proofs.lemmas.Int.{to_z-of_z, ints, clamps}
use Rattle.box_math.specs.Bounds.{on_axis, Meets}
use Rattle.box_math.proofs.Fits.{product_fits, product_bound}
use Rattle.box_math.proofs.Growth.{meet_of-side, overlap_of-meet, overlap_of-apart}
use Rattle.box_math.proofs.bounds.BBox.overlap.Goals as goal

pub overflow_mul-product : goal.overflow_mul-product
overflow_mul-product g c =
    product_fits c.loop-axis.axis _ _ (omega arith) c.loop-axis.invariant.2 (omega arith)

pub returns-then-high-low-clause-value : goal.returns-then-high-low-clause-value
returns-then-high-low-clause-value g c =
    let a = c.args.self.now in
    let b = c.args.other.now in
    let k = c.loop-axis.axis in
    let fails : Meets g.row.D a b → ⊥ = λ met.
    let u = met k c.loop-axis-test.true in
    let s = (c.self.invariant k c.loop-axis-test.true).ordered in
    let t = (c.other.invariant k c.loop-axis-test.true).ordered in
    grind (arith, ints, clamps, to_z-of_z) in
    sym (overlap_of-apart g.row.D a b fails)

pub loop-axis-preserved : goal.loop-axis-preserved
loop-axis-preserved g c =
    let a = c.args.self.now in
    let b = c.args.other.now in
    let k = c.loop-axis.axis in
    let i = c.loop-axis.invariant in
    let side : c.from-product.result ≡ unsigned_abs
    (int_min (on_axis a.high k) (on_axis b.high k) -ℤ int_max (on_axis a.low k) (on_axis b.low k)) =
    grind (arith, to_z-of_z) in
    let e = meet_of-side g.row.D a b k c.loop-axis-test.true in (
      below_more _ _ i.0 (grind (arith, ints, clamps, to_z-of_z), grind (arith, ints, clamps, to_z-of_z)),
      rw (add-one, i.1, side, e) refl,
      rw (add-one, pow-suc) (mul-le _ _ _ _ i.2 (omega arith)),
    )

pub returns-clause-value : goal.returns-clause-value
returns-clause-value g c =
    let a = c.args.self.now in
    let b = c.args.other.now in
    let done : c.loop-axis.axis ≡ g.row.D = omega arith in
    let met : Meets g.row.D a b = λ axis h. c.loop-axis.invariant.0 axis (omega arith) in
    rw (c.loop-axis.invariant.1, done) (sym (overlap_of-meet g.row.D a b met))

pub returns-clause-bound : goal.returns-clause-bound
returns-clause-bound g c = product_bound c.loop-axis.axis _ (omega arith) c.loop-axis.invariant.2
