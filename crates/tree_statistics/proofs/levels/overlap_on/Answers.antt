-- Each node's overlaps with its later siblings are added.
use Rattle.std.proofs.Common.{◌-◌, ap, arith, drop, length}
use Rattle.std.proofs.lemmas.List.{at_drop_all, length-drop, take_all}
use Rattle.tree_statistics.specs.Levels.{overlap_at, overlap_with_later}
use Rattle.tree_statistics.proofs.SumLemmas.{overlap_from_place}
use Rattle.tree_statistics.proofs.levels.overlap_on.Goals as goal

pub loop-place-preserved : goal.loop-place-preserved
loop-place-preserved g c =
    let split = overlap_from_place g.row.D c.args.level c.args.rows.now c.loop-place.place
    (omega (arith, c.loop-place-test.true)) in
    let rows = c.args.rows.now in
    let at = c.loop-place.place in
    let whole =
    ap (overlap_with_later {D = g.row.D} c.args.level)
    (take_all (length rows - at) (drop at rows) (omega (arith, length-drop at rows))) in (
      omega (
        arith,
        c.loop-place.invariant.0,
        c.loop-place.invariant.1,
        split,
        whole,
        c.overlap_from.ensures,
        c.saturating_add-sum.ensures,
      ),
      omega (arith, c.saturating_add-sum.ensures),
    )

pub returns : goal.returns
returns g c =
    let gone = at_drop_all (overlap_at {D = g.row.D} c.args.level) c.args.rows.now c.loop-place.place
    (omega (arith, c.loop-place-test.false)) in
    omega (arith, c.loop-place.invariant.0, c.loop-place.invariant.1, gone)
