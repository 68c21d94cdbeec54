-- The laws are the lemmas of their names.
use Rattle.node_page.proofs.ChangeLemmas.{trees_beside_stand, waiters_beside_stand}
use Rattle.node_page.proofs.laws.changes_keep_what_stands_beside.Goals as goal

pub returns-clause-trees : goal.returns-clause-trees
returns-clause-trees c = trees_beside_stand

pub returns-clause-waiting : goal.returns-clause-waiting
returns-clause-waiting c = waiters_beside_stand
