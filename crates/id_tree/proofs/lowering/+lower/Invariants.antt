-- Each call below is for a lower level.
use Rattle.id_tree.proofs.lowering.+lower.Given as goal

abbrev pub decreases-lower : goal.decreases-lower
decreases-lower g l = l.level
