-- The law is the lemma of its name.
use Rattle.tree_node.proofs.BoxLemmas.{join_is_least_box}
use Rattle.tree_node.proofs.laws.a_node_has_one_least_box.Goals as goal

pub returns-clause-joined : goal.returns-clause-joined
returns-clause-joined c = join_is_least_box
