-- The goal of `low_column` that is proved by hand.
use Rattle.std.proofs.Common.{◌<◌, ap, length, rules, arith}
use Rattle.std.proofs.lemmas.Int.{to_z-of_z}
use Rattle.box_math.specs.Bounds.{Bounds, on_axis}
use Rattle.spatial_join.proofs.MaskLemmas.{one_box_more, one_cell_more}
use Rattle.spatial_join.proofs.columns.low_column.Goals as goal

pub loop-place-preserved : goal.loop-place-preserved
loop-place-preserved g c =
    let within : c.loop-place.place < length c.deref.result.now =
    omega (arith, c.loop-place-test.true, c.len-place-end.ensures.value, ap length c.deref.ensures.0) in
    record {
      boxes = one_box_more c.deref.result.now c.args.node.now.entries.items c.loop-place.place
          c.index-deref-place.result c.deref.ensures.0 within c.index-deref-place.is c.low.ensures.is_box
          c.loop-place.invariant.boxes;
      size = search rules;
      filled =
          one_cell_more c.deref.result.now c.args.node.now.entries.items c.loop-place.place
          c.index-deref-place.result (λ (b : Bounds). on_axis b.low c.args.axis) c.loop-place.column _
          c.deref.ensures.0 within c.index-deref-place.is
          (search (rules, to_z-of_z, c.low.ensures.value, c.low.ensures.is_box))
          (omega (
            arith,
            c.requires.few,
            c.loop-place-test.true,
            c.len-place-end.ensures.value,
            c.loop-place.invariant.size,
          )) c.loop-place.invariant.filled;
    }
