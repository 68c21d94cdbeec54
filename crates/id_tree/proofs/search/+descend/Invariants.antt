-- How deep a way goes.
use Rattle.id_tree.proofs.search.+descend.Given as goal

-- each call below is for a lower level
abbrev pub decreases-descend : goal.decreases-descend
decreases-descend g l = l.level
