-- The law is a lemma.
use Rattle.tree_statistics.proofs.SiblingLemmas.{counts_siblings}
use Rattle.tree_statistics.proofs.laws.overlaps_are_of_siblings.Goals as goal

pub returns : goal.returns
returns c = counts_siblings
