use Rattle.std.proofs.Common.{length}
use Rattle.box_import.proofs.json_text.spells.Given as goal

abbrev pub decreases-bytes : goal.decreases-bytes
decreases-bytes l = length l.string
