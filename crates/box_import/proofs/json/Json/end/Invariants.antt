use Rattle.arrayvec.specs.ArrayVec.{array_vec_len}
use Rattle.box_import.proofs.json.Json.end.Given as goal

abbrev pub decreases-closing : goal.decreases-closing
decreases-closing l = array_vec_len l.open
