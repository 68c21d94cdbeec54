-- Both corners are there, since the second is written apart from the first.
use Rattle.std.proofs.Common.{◌∙◌}
use Rattle.box_bytes.proofs.BothCorners.{box_written}
use Rattle.box_bytes.proofs.boxes.write_box.Goals as goal

pub returns-clause-written : goal.returns-clause-written
returns-clause-written g c =
    box_written g.row.D c.args.low c.args.high c.args.stride c.write_corner.new.block
    c.write_corner-2.new.block c.args.bounds.now c.requires.apart c.write_corner-2.ensures.others
    (c.write_corner.ensures.written ∙ c.low.ensures.value)
    (c.write_corner-2.ensures.written ∙ c.high.ensures.value)
