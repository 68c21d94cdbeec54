-- The corners are points, and their coordinates fit 32 bits.
use Rattle.box_bytes.specs.Laws.{box_at-is_box}
use Rattle.box_bytes.proofs.laws.ordered_corners_are_a_box.Goals as goal

pub returns : goal.returns
returns c = box_at-is_box
