use Rattle.std.proofs.Common.{◌+◌, ◌*◌}
use Rattle.box_import.proofs.geometry.+geometry.Given as goal

abbrev pub decreases-read_geometry : goal.decreases-read_geometry
decreases-read_geometry l = 3 * l.nested

abbrev pub decreases-read_collection : goal.decreases-read_collection
decreases-read_collection l = 3 * l.nested + 1

abbrev pub decreases-read_member : goal.decreases-read_member
decreases-read_member l = 3 * l.nested + 2
