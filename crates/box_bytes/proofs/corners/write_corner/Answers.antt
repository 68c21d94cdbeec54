-- Each coordinate is written in its place, and no other place changes.
use Rattle.std.proofs.Common.{◌≡◌, ◌+◌, ◌*◌, ◌≤◌, length, arith, rules, sym, refl, FitsSigned, w32}
use Rattle.std.proofs.lemmas.Int.{to_z-of_z}
use Rattle.box_math.specs.Bounds.{on_axis}
use Rattle.block_bytes.specs.Numbers.{put_signed}
use Rattle.box_bytes.specs.Laws.{coordinate-le-last, corner_is}
use Rattle.box_bytes.proofs.Writing.{corner_more, keeps_more}
use Rattle.box_bytes.proofs.corners.write_corner.Goals as goal

pub loop-axis-preserved : goal.loop-axis-preserved
loop-axis-preserved g c =
    let axis = c.loop-axis.axis in
    let block = c.loop-axis.block in
    let z = on_axis c.args.corner.now axis in
    let fits : FitsSigned w32 z = search rules in
    let room : c.args.at + c.args.stride * axis + 4 ≤ length block =
    omega (
      arith,
      c.loop-axis.invariant.long,
      coordinate-le-last g.row.D c.args.at c.args.stride axis (omega arith),
    ) in
    let is : c.write_i32.new.block ≡ put_signed (c.args.at + c.args.stride * axis) z block =
    simp (to_z-of_z) at c.write_i32.ensures in record {
      long = c.write_i32.array_long;
      written =
          rw is (corner_more axis c.args.at c.args.stride z block c.args.corner.now c.requires.stride room
          fits refl c.loop-axis.invariant.written);
      others =
          rw is (keeps_more axis c.args.at c.args.stride z c.args.block.now block room
          c.loop-axis.invariant.others);
    }

pub returns-clause-written : goal.returns-clause-written
returns-clause-written g c =
    sym (corner_is g.row.D c.loop-axis.block c.args.at c.args.stride c.args.corner.now c.told-corner
    (λ k lt. sym (c.loop-axis.invariant.written k (omega arith))))

pub returns-clause-others : goal.returns-clause-others
returns-clause-others g c =
    λ n from clear. c.loop-axis.invariant.others n from (λ axis lt. clear axis (omega arith))
