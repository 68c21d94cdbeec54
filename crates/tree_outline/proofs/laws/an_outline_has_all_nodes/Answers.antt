-- The laws are lemmas.
use Rattle.tree_outline.proofs.OutlineLemmas.{has_each_node, has_each_page}
use Rattle.tree_outline.proofs.laws.an_outline_has_all_nodes.Goals as goal

pub returns-clause-nodes : goal.returns-clause-nodes
returns-clause-nodes c = has_each_node

pub returns-clause-pages : goal.returns-clause-pages
returns-clause-pages c = has_each_page
