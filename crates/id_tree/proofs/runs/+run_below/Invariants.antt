-- How deep a way goes.
use Rattle.id_tree.proofs.runs.+run_below.Given as goal

-- each call below is for a lower level
abbrev pub decreases-run_below : goal.decreases-run_below
decreases-run_below g l = l.level
