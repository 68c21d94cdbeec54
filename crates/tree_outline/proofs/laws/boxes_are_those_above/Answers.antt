-- The law is a lemma.
use Rattle.tree_outline.proofs.OutlineLemmas.{boxes_are_above}
use Rattle.tree_outline.proofs.laws.boxes_are_those_above.Goals as goal

pub returns : goal.returns
returns c = boxes_are_above
