-- Each call below is for a lower level.
use Rattle.id_tree.proofs.removing.+remove_below.Given as goal

abbrev pub decreases-remove_below : goal.decreases-remove_below
decreases-remove_below g l = l.level
